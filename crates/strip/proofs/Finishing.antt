-- The sum over all map channels, back to residues: at the places of strip t each word reads as the direct sum. It rests on the sum over a window,
-- on the load limit and on the reading of residues.
use mathlib.Core.Path.{◌≡◌, sym, ap₂, ◌∙◌}
use mathlib.Core.List.{List}
use Prim.Native.Nat.{ℕ, ◌+◌, ◌*◌, ◌-◌, ◌%◌, ◌<◌, ◌≤◌}
use native.Mathlib.Nat.{zero-add}
use native.Mathlib.Omega.{arith}
use lib.IntN.{ℤ}
use lib.ListN.{get_or}
use Rattle.algebra.specs.Residue.{Represents}
use Rattle.algebra.specs.Sum.{sum_z}
use Rattle.algebra.specs.SumLaws.{integers, sum_z_none, plus_none_right}
use Rattle.fermat.specs.Field.{modulus}
use Rattle.spectrum.specs.Value.{offset_of, Storable}
use Rattle.spectrum.specs.ValueLaws.{Moved}
use Rattle.row.specs.Row.{RowSpectrum, RowRecovered}
use Rattle.row.specs.RowLaws.{row_kept}
use Rattle.layer.specs.Planned.{Planned}
use Rattle.layer.specs.declared.shape.Layer.{Layer}
use Rattle.layer.specs.Shape.{grid_step, column_of}
use Rattle.layer.specs.Strip.{strip_length, strip_of, strip_channel, strip_row, strip_column, place_in_strip}
use Rattle.layer.specs.StripLaws.{InStrip, to_strip}
use Rattle.layer.specs.Direct.{full_at, direct_at}
use Rattle.checks.specs.Callable.{Callable}
use Rattle.checks.specs.CallableLaws.{direct_fits}
use Rattle.checks.specs.Engine.{strip_engine}
use Rattle.window.specs.Window.{channel_sum}
use Rattle.window.proofs.ChannelLaws.{on_grid, window_sum}
use Rattle.store.specs.ReadingLaws.{field_reading}
use Rattle.strip.specs.declared.origin.StripOrigin.{StripOrigin}
use Rattle.strip.specs.Origin.{strip_first_row, strip_first_column, StripOriginAt}
use Rattle.strip.specs.Rows.{StripAdded}
use Rattle.strip.specs.Stored.{strip_word, strip_stored_at}

-- the field is 4
pub field_is : {l : Layer} {map kernel : List ℤ} {output scratch : ℕ} → Callable strip_engine l map kernel output scratch → l.field ≡ 4
field_is callable = omega (arith, callable.field_taken, callable.plan.shape.field_low)

-- the place of an output in its strip, K − 1 further on, lies within the 256 words
pub place_in_row : (l : Layer) → Planned l → (t p : ℕ) → InStrip l t p → l.side - 1 + place_in_strip l t p < 256
place_in_row l plan t p i =
    inside l.side (column_of l p * grid_step l) (strip_column l t * strip_length l) plan.shape.side_low plan.shape.side_high
    i.column_low i.column_high
  where
    inside : (K x from : ℕ) → 1 ≤ K → K ≤ 11 → from ≤ x → x < from + (257 - K) → K - 1 + (x - from) < 256
    inside K x from some few low high = omega arith

-- the direct sum at a place of strip t is the sum over its windows
strip_sum : (l : Layer) (map kernel : List ℤ) → Planned l → (t p : ℕ) → InStrip l t p
    → direct_at l map kernel p ≡ sum_z l.inputs (λ c.
    channel_sum l map kernel (strip_channel l t) (strip_first_row l t) (strip_first_column l t) c (l.side - 1) (l.side - 1 + place_in_strip l t p))
unfolding direct_at
strip_sum l map kernel plan t p i =
    ap₂ (λ (m r : ℕ). full_at l map kernel m (l.top + r) (l.left + column_of l p)) i.channel i.row
    ∙ window_sum l map kernel plan.shape (strip_channel l t) (l.top + strip_row l t) (l.left + column_of l p) (strip_first_row l t) (strip_first_column l t)
    (l.side - 1) (l.side - 1 + place_in_strip l t p) (omega arith)
    (on_grid l.side l.left (strip_column l t * strip_length l) (column_of l p) (grid_step l) i.column_low) (omega arith) (omega arith)

-- ys is scratch after the sum, `part` its first part, and rs what comes back of it
module _ (l : Layer) (map kernel : List ℤ) (output scratch t : ℕ) (callable : Callable strip_engine l map kernel output scratch) (s : StripOrigin)
    (at : StripOriginAt l t s) (xs ys part rs : List ℕ) (added : StripAdded l map kernel s l.inputs 0 xs ys)
    (lent : (i : ℕ) → i < 256 → get_or part i 0 ≡ get_or ys i 0) (recovered : RowRecovered part rs) where
  plan : Planned l
  plan = callable.plan

  sums : RowSpectrum added.sum 0 part
  sums = row_kept added.spectrum (λ i h. rw (zero-add i) (lent i h))

  module _ (p : ℕ) (below : p < output) (held : strip_of l p ≡ t) where
    in_strip : InStrip l t p
    in_strip = to_strip l plan t p held

    abbrev j : ℕ
    j = l.side - 1 + place_in_strip l t p

    inside : j < 256
    inside = place_in_row l plan t p in_strip

    -- the word of place p
    word_is : strip_word l t p rs ≡ (added.sum j + offset_of l.field) % modulus l.field
    word_is = rw (field_is callable) (recovered added.sum sums j inside)

    represents : Represents (modulus l.field) (direct_at l map kernel p) (added.sum j)
    represents =
        rw (strip_sum l map kernel plan t p in_strip, sym at.channel, sym at.row, sym at.column)
        (rw (sum_z_none, plus_none_right integers) at (added.value j (omega arith) inside))

    reads : Moved (offset_of l.field) 2147483647 (direct_at l map kernel p) ((added.sum j + offset_of l.field) % modulus l.field)
    reads =
        field_reading l.field plan.shape.field_low plan.shape.field_high
        (direct_fits strip_engine l map kernel output scratch callable p below) represents

    -- what is stored is the direct sum, and it fits 32 bits
    pub finished : Storable (offset_of l.field) (strip_word l t p rs) × (strip_stored_at l t rs p ≡ direct_at l map kernel p)
    finished = rw word_is (reads.bound, reads.reads)
