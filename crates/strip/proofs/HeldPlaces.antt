-- The places of a strip in the output are one run of its output row. It rests on the laws of strips and of the columns that a part holds.
use mathlib.Core.Path.{◌≡◌, ap₂, ◌∙◌}
use mathlib.Core.List.{List}
use Prim.Native.Nat.{ℕ, ◌+◌, ◌*◌, ◌-◌, ◌%◌, ◌<◌, ◌≤◌}
use native.Mathlib.Nat.{div-add-mod'}
use native.Mathlib.Omega.{arith}
use lib.IntN.{ℤ, pos}
use lib.ListN.{length, get_or}
use Rattle.algebra.specs.Places.{Written, Run}
use Rattle.algebra.specs.PlacesLaws.{part_ends, written_as}
use Rattle.algebra.specs.PlanesLaws.{stacked_at_lem}
use Rattle.spectrum.specs.Value.{offset_of, less_offset, Storable}
use Rattle.layer.specs.Planned.{Planned}
use Rattle.layer.specs.declared.shape.Layer.{Layer}
use Rattle.layer.specs.Shape.{grid_step, channel_of, row_of, column_of}
use Rattle.layer.specs.Strip.{strip_length, strip_total, strip_of, strip_channel, strip_row, strip_column, place_in_strip}
use Rattle.layer.specs.StripLaws.{InStrip, strip_channel_lt, strip_row_lt, to_strip, from_strip}
use Rattle.layer.specs.TileLaws.{planned_tiled, column_lt}
use Rattle.store.specs.declared.Held.{Held}
use Rattle.store.specs.Held.{HeldBy, RowStorable, RowStored}
use Rattle.store.specs.HeldLaws.{word_at, word_lt}
use Rattle.strip.specs.Stored.{strip_word, strip_stored_at}
use lib.Arith.{digits_lt}

-- a flat place by its channel, row and column
place_is : (l : Layer) (p : ℕ) → p ≡ (channel_of l p * l.rows + row_of l p) * l.columns + column_of l p
place_is l p =
    let plane : ℕ = l.rows * l.columns in
    let within : ℕ = p % plane in
    omega (arith, div-add-mod' p plane, div-add-mod' within l.columns)

module _ (l : Layer) (plan : Planned l) (t : ℕ) (below : t < strip_total l) (h : Held)
    (by : HeldBy l (strip_length l) (strip_column l t) l.columns h) where
  -- the first place of the output row
  abbrev row_start : ℕ
  row_start = (strip_channel l t * l.rows + strip_row l t) * l.columns

  pub row_ends : row_start + l.columns ≤ l.outputs * l.rows * l.columns
  row_ends = part_ends _ _ l.columns (digits_lt (strip_channel_lt l plan t below) (strip_row_lt l plan t))

  -- the channel, the row and the column of a place of that row
  at : (f : ℕ) → f < l.columns → (part : ℕ → ℕ → ℕ → ℕ)
      → part (channel_of l (row_start + f)) (row_of l (row_start + f)) (column_of l (row_start + f)) ≡ part (strip_channel l t) (strip_row l t) f
  at f right part = stacked_at_lem l.rows l.columns part (strip_channel l t) (strip_row l t) f (strip_row_lt l plan t) right

  -- a column held, as a place of the output, lies in the strip
  in_strip : (f : ℕ) → Run h.first h.count f → InStrip l t (row_start + f)
  in_strip f run =
      let right : f < l.columns = omega (arith, by.short) in
      let (low, high) = by.inside f run in
      let column : column_of l (row_start + f) ≡ f = at f right (λ k r e. e) in
      record { channel = at f right (λ k r e. k); row = at f right (λ k r e. r); column_low = rw column low; column_high = rw column high }

  -- and every place of the strip is one
  column_held : (p : ℕ) → InStrip l t p → Run h.first h.count (column_of l p) × (p ≡ row_start + column_of l p)
  column_held p i = (
    by.all (column_of l p) (column_lt l (planned_tiled l plan) p) (i.column_low, i.column_high),
    place_is l p ∙ ap₂ (λ (m r : ℕ). (m * l.rows + r) * l.columns + column_of l p) i.channel i.row,
  )

  same_word : (p : ℕ) → InStrip l t p → h.word + (p - (row_start + h.first)) * grid_step l ≡ l.side - 1 + place_in_strip l t p
  same_word p i =
      let (run, place) = column_held p i in
      let further : p - (row_start + h.first) ≡ column_of l p - h.first = omega arith in
      rw further (word_at l (strip_length l) (strip_column l t) l.columns h by (column_of l p) run)

  -- what is asked of the strip's places is asked of the run
  pub run_fits : (words : List ℕ) {n : ℕ} → n ≡ l.outputs * l.rows * l.columns → 256 ≤ length words
      → ((p : ℕ) → p < n → strip_of l p ≡ t → Storable (offset_of l.field) (strip_word l t p words))
      → RowStorable (offset_of l.field) h.word (grid_step l) h.count words
  run_fits words whole room fit i few =
      let f : ℕ = h.first + i in
      let run : Run h.first h.count f = (omega arith, omega arith) in
      let held = in_strip f run in
      let back : row_start + f - (row_start + h.first) ≡ i = omega arith in
      let word = rw back at (same_word (row_start + f) held) in (
        omega (arith, word_lt l (strip_length l) (strip_column l t) l.columns h by i few, plan.shape.side_low, plan.shape.side_high),
        rw word (fit (row_start + f) (omega (arith, row_ends, by.short)) (from_strip l plan t (row_start + f) held)),
      )

  -- and the run stored is the strip stored
  pub strip_stored : (words : List ℕ) {xs ys : List ℤ} {offset step : ℕ} (at : ℕ) → at ≡ row_start + h.first
      → offset ≡ offset_of l.field → step ≡ grid_step l → RowStored offset at h.word step h.count words xs ys
      → Written (pos 0) (λ p. strip_of l p ≡ t) (strip_stored_at l t words) xs ys
  strip_stored words at at-is offset_is step_is stored =
      written_as stored
      (λ p _ e. let (run, place) = column_held p (to_strip l plan t p e) in (omega arith, omega arith))
      (λ p run.
      let e : row_start + (p - row_start) ≡ p = omega (arith, run.0) in
      from_strip l plan t p (rw e at (in_strip (p - row_start) (omega (arith, run.0), omega (arith, run.1)))))
      (λ p _ e. ap₂ (λ (offset i : ℕ). less_offset offset (get_or words i 0)) offset_is
      (ap₂ (λ (n step : ℕ). h.word + (p - n) * step) at-is step_is ∙ same_word p (to_strip l plan t p e)))
