-- The words of a tile read as the direct sums. Where words represent the tile's windows and weights, their circular sums over all map
-- channels represent the direct sums (WindowIdentity, FoldingLaws), and these are within the load limit (CallableLaws), so that they are read
-- back (ReadingLaws).
use mathlib.Core.Path.{◌≡◌, sym, subst}
use mathlib.Core.Logic.{◌⊎◌}
use mathlib.Core.List.{List}
use Prim.Native.Nat.{ℕ, ◌+◌, ◌*◌, ◌-◌, ◌/◌, ◌%◌, ◌^◌, ◌<◌, ◌≤◌}
use native.Mathlib.Omega.{arith}
use lib.IntN.{ℤ}
use Rattle.algebra.specs.Residue.{Represents}
use Rattle.algebra.specs.Sum.{sum_z}
use Rattle.algebra.specs.ResidueLaws.{represents_mul, represents_sum}
use Rattle.fermat.specs.Field.{modulus, transform_length}
use Rattle.fermat.specs.Transform.{circular2}
use Rattle.fermat.specs.FoldingLaws.{folding2}
use Rattle.spectrum.specs.ValueLaws.{Moved}
use Rattle.layer.specs.Planned.{Planned}
use Rattle.layer.specs.declared.shape.Layer.{Layer}
use Rattle.layer.specs.Shape.{tile_side, grid_step, row_of, column_of, tile_of, tile_channel, tile_row, tile_column, row_in_tile, column_in_tile}
use Rattle.layer.specs.Direct.{direct_at, plane_of}
use Rattle.layer.specs.TileSizeLaws.{length_low}
use Rattle.layer.specs.TileLaws.{InTile, planned_tiled, to_tile}
use Rattle.checks.specs.Callable.{Callable}
use Rattle.checks.specs.Engine.{tile_engine}
use Rattle.checks.specs.CallableLaws.{direct_fits}
use Rattle.window.specs.Window.{window_at, weight_at, channel_sum}
use Rattle.store.specs.ReadingLaws.{field_reading}
use Rattle.tile.specs.Start.{first_row, first_column}
use Rattle.tile.proofs.WindowIdentity.{tile_sum}

-- ---- the row and the column of a place, K − 1 further on, lie within the window

in_window : (N K x from : ℕ) → 1 ≤ K → K ≤ N → from ≤ x → x < from + (N - K + 1) → K - 1 + (x - from) < N
in_window N K x from some h low high = omega arith

module _ (l : Layer) (plan : Planned l) where
  short : l.side ≤ transform_length l.field
  short = omega (arith, plan.shape.side_high, length_low l plan.shape)

  pub row_in_window : (t p : ℕ) → InTile l t p → l.side - 1 + row_in_tile l t p < transform_length l.field
  row_in_window t p in_tile =
      in_window (transform_length l.field) l.side (row_of l p * grid_step l) (tile_row l t * tile_side l) plan.shape.side_low short
      in_tile.row_low in_tile.row_high

  pub column_in_window : (t p : ℕ) → InTile l t p → l.side - 1 + column_in_tile l t p < transform_length l.field
  column_in_window t p in_tile =
      in_window (transform_length l.field) l.side (column_of l p * grid_step l) (tile_column l t * tile_side l) plan.shape.side_low short
      in_tile.column_low in_tile.column_high

  -- one map channel: words for its window and for the weights, and the circular sum of both
  module _ (map kernel : List ℤ) (m row column c : ℕ) (window weight : ℕ → ℕ → ℕ)
      (windows : (u v : ℕ) → u < transform_length l.field → v < transform_length l.field
      → Represents (modulus l.field) (window_at l map c row column u v) (window u v))
      (weights : (a b : ℕ) → a < l.side → b < l.side → Represents (modulus l.field) (weight_at l kernel (plane_of l m c) a b) (weight a b))
      (empty : (a b : ℕ) → (l.side ≤ a) ⊎ (l.side ≤ b) → weight a b ≡ 0) where
    pub channel_represents : (i j : ℕ) → l.side - 1 ≤ i → i < transform_length l.field → l.side - 1 ≤ j → j < transform_length l.field
        → Represents (modulus l.field) (channel_sum l map kernel m row column c i j) (circular2 (transform_length l.field) weight window i j)
    unfolding channel_sum
    channel_represents i j row_low row_high column_low column_high =
        rw (folding2 (transform_length l.field) l.side short weight window empty i j row_low row_high column_low column_high)
        (represents_sum l.side (λ a k. represents_sum l.side (λ b h.
        represents_mul (weights a b k h) (windows (i - a) (j - b) (omega arith) (omega arith)))))

-- ---- the sum over all map channels

module _ (l : Layer) (map kernel : List ℤ) (output scratch t : ℕ) (callable : Callable tile_engine l map kernel output scratch) where
  plan : Planned l
  plan = callable.plan

  -- a word for that sum at place p of tile t reads as the direct sum
  pub tile_reads : {v : ℕ} (p : ℕ) → p < output → tile_of l p ≡ t
      → Represents (modulus l.field) (sum_z l.inputs (λ c.
      channel_sum l map kernel (tile_channel l t) (first_row l t) (first_column l t) c (l.side - 1 + row_in_tile l t p) (l.side - 1 + column_in_tile l t p))) v
      → Moved (2 ^ (2 ^ l.field) / 2) 2147483647 (direct_at l map kernel p) ((v + 2 ^ (2 ^ l.field) / 2) % modulus l.field)
  tile_reads {v} p h e sum =
      field_reading l.field plan.shape.field_low plan.shape.field_high (direct_fits tile_engine l map kernel output scratch callable p h)
      (subst (λ z. Represents (modulus l.field) z v) (sym (tile_sum l map kernel plan t p (to_tile l (planned_tiled l plan) t p e))) sum)
