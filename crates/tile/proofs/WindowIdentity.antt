-- The direct sum at a place of a tile is a plain sum of weights times values of the tile's window. It rests on window's `ChannelLaws`; here the
-- place is found in the tile's window.
use mathlib.Core.Path.{◌≡◌, ap, ◌∙◌}
use mathlib.Core.List.{List}
use Prim.Native.Nat.{ℕ, ◌+◌, ◌*◌, ◌-◌}
use native.Mathlib.Omega.{arith}
use lib.IntN.{ℤ}
use Rattle.algebra.specs.Sum.{sum_z}
use Rattle.layer.specs.Planned.{Planned}
use Rattle.layer.specs.declared.shape.Layer.{Layer}
use Rattle.layer.specs.Shape.{tile_side, grid_step, row_of, column_of, tile_channel, tile_row, tile_column, row_in_tile, column_in_tile}
use Rattle.layer.specs.Direct.{full_at, direct_at}
use Rattle.layer.specs.TileLaws.{InTile}
use Rattle.window.specs.Window.{channel_sum}
use Rattle.window.proofs.ChannelLaws.{on_grid, window_sum}
use Rattle.tile.specs.Start.{first_row, first_column}

pub tile_sum : (l : Layer) (map kernel : List ℤ) → Planned l → (t p : ℕ) → InTile l t p
    → direct_at l map kernel p ≡ sum_z l.inputs (λ c.
    channel_sum l map kernel (tile_channel l t) (first_row l t) (first_column l t) c (l.side - 1 + row_in_tile l t p) (l.side - 1 + column_in_tile l t p))
unfolding direct_at
tile_sum l map kernel plan t p in_tile =
    ap (λ m. full_at l map kernel m (l.top + row_of l p) (l.left + column_of l p)) in_tile.channel
    ∙ window_sum l map kernel plan.shape (tile_channel l t) (l.top + row_of l p) (l.left + column_of l p) (first_row l t) (first_column l t)
    (l.side - 1 + row_in_tile l t p) (l.side - 1 + column_in_tile l t p)
    (on_grid l.side l.top (tile_row l t * tile_side l) (row_of l p) (grid_step l) in_tile.row_low)
    (on_grid l.side l.left (tile_column l t * tile_side l) (column_of l p) (grid_step l) in_tile.column_low) (omega arith) (omega arith)
