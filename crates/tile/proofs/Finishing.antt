-- The sum over all map channels, back to residues: at the places of tile t each word reads as the direct sum.
use mathlib.Core.Path.{◌≡◌, refl, sym}
use mathlib.Core.List.{List}
use Prim.Native.Nat.{ℕ, ◌+◌, ◌-◌, ◌%◌, ◌<◌}
use native.Mathlib.Nat.{zero-add}
use native.Mathlib.Omega.{arith}
use lib.IntN.{ℤ}
use lib.ListN.{get_or}
use Rattle.algebra.specs.Residue.{Represents}
use Rattle.algebra.specs.Sum.{sum_z}
use Rattle.fermat.specs.Field.{modulus, transform_length}
use Rattle.spectrum.specs.Value.{offset_of, Storable}
use Rattle.spectrum.specs.Tile.{Spectrum, Recovered}
use Rattle.spectrum.specs.SpectrumLaws.{spectrum_kept}
use Rattle.spectrum.specs.ValueLaws.{Moved}
use Rattle.layer.specs.Planned.{Planned}
use Rattle.layer.specs.declared.shape.Layer.{Layer}
use Rattle.layer.specs.Shape.{tile_of, tile_channel, row_in_tile, column_in_tile}
use Rattle.layer.specs.Direct.{direct_at}
use Rattle.layer.specs.TileLaws.{InTile, planned_tiled, to_tile}
use Rattle.checks.specs.Callable.{Callable}
use Rattle.checks.specs.Engine.{tile_engine}
use Rattle.window.specs.Window.{channel_sum}
use Rattle.store.specs.Stored.{word_of, stored_at}
use Rattle.tile.specs.Start.{first_row, first_column}
use Rattle.tile.specs.declared.origin.Origin.{Origin}
use Rattle.tile.specs.Channel.{area, Added}
use Rattle.tile.proofs.TileReads.{row_in_window, column_in_window, tile_reads}

-- the origin is that of tile t
pub record At (l : Layer) (t : ℕ) (o : Origin) : Type 0 where
  pub channel : o.channel ≡ tile_channel l t
  pub row : o.row ≡ first_row l t
  pub column : o.column ≡ first_column l t

-- ys is scratch after the sum, `part` its first part, and rs what comes back of it
module _ (l : Layer) (map kernel : List ℤ) (output scratch t : ℕ) (callable : Callable tile_engine l map kernel output scratch) (o : Origin) (at : At l t o)
    (xs ys part rs : List ℕ) (added : Added l map kernel o l.inputs xs ys)
    (lent : (i : ℕ) → i < area l → get_or part i 0 ≡ get_or ys i 0) (recovered : Recovered l.field part rs) where
  plan : Planned l
  plan = callable.plan

  sums : Spectrum l.field added.sum 0 part
  sums = spectrum_kept refl added.spectrum (λ i h. rw (zero-add i) (lent i h))

  module _ (p : ℕ) (below : p < output) (held : tile_of l p ≡ t) where
    in_tile : InTile l t p
    in_tile = to_tile l (planned_tiled l plan) t p held

    abbrev i : ℕ
    i = l.side - 1 + row_in_tile l t p

    abbrev j : ℕ
    j = l.side - 1 + column_in_tile l t p

    row : i < transform_length l.field
    row = row_in_window l plan t p in_tile

    column : j < transform_length l.field
    column = column_in_window l plan t p in_tile

    -- the word of place p
    word_is : word_of l t p rs ≡ (added.sum i j + offset_of l.field) % modulus l.field
    word_is = recovered added.sum sums i j row column

    represents : Represents (modulus l.field)
        (sum_z l.inputs (λ c. channel_sum l map kernel (tile_channel l t) (first_row l t) (first_column l t) c i j)) (added.sum i j)
    represents = rw (sym at.channel, sym at.row, sym at.column) (added.value i j (omega arith) row (omega arith) column)

    reads : Moved (offset_of l.field) 2147483647 (direct_at l map kernel p) ((added.sum i j + offset_of l.field) % modulus l.field)
    reads = tile_reads l map kernel output scratch t callable p below held represents

    -- what is stored is the direct sum, and it fits 32 bits
    pub finished : Storable (offset_of l.field) (word_of l t p rs) × (stored_at l t rs p ≡ direct_at l map kernel p)
    finished = rw word_is (reads.bound, reads.reads)
