-- `store_strip` finds the columns that the strip holds, and stores them as one run. HeldPlaces has the laws.
use mathlib.Core.Path.{◌≡◌, refl, ap₂, ◌∙◌, subst}
use Prim.Native.Nat.{ℕ, ◌+◌, ◌*◌, ◌-◌, ◌≤◌, ◌<◌}
use native.Mathlib.Omega.{arith}
use lib.Arith.{digits_lt}
use lib.ListN.{drop, length-drop}
use lib.Seq.{length-take-le}
use Rattle.layer.specs.CountLaws.{output_rows_high, output_high}
use Rattle.layer.specs.declared.shape.Layer.{Layer}
use Rattle.layer.specs.Strip.{strip_length, strip_channel, strip_row, strip_column}
use Rattle.layer.specs.StripLaws.{strip_length_low, strip_length_high, strip_channel_lt, strip_row_lt, strip_column_lt}
use Rattle.layer.specs.PartLaws.{step_range}
use Rattle.layer.specs.TileSizeLaws.{columns_wanted}
use Rattle.store.specs.Held.{HeldBy}
use Rattle.store.specs.LentLaws.{lent_storable, row_lent}
use Rattle.strip.proofs.HeldPlaces.{row_ends, run_fits, strip_stored}
use Rattle.strip.proofs.held.store_strip.Goals as goal
use Rattle.strip.proofs.held.store_strip.Goals.{After-held_in-columns}

pub held_in-columns-requires : goal.held_in-columns-requires
held_in-columns-requires c =
    let plan = c.requires.planned.0 in
    let length = c.strip_length.ensures in
    let low = strip_length_low _ plan.shape in (
      plan,
      columns_wanted _ plan,
      omega (arith, length, low, (step_range _ plan.shape).1),
      omega (arith, length, strip_length_high _ plan.shape),
      rw (length, c.strip_place-place.ensures.2) (strip_column_lt _ plan c.args.strip),
    )

-- the columns that the strip holds are known
module _ (c : After-held_in-columns) where
  abbrev l : Layer
  l = c.args.layer

  abbrev t : ℕ
  t = c.args.strip

  held : HeldBy l (strip_length l) (strip_column l t) l.columns c.held_in-columns.result
  held =
      subst (λ (length : ℕ). HeldBy l length (strip_column l t) l.columns c.held_in-columns.result) c.strip_length.ensures
      (rw c.strip_place-place.ensures.2 at c.held_in-columns.ensures)

  -- the first place of the output row, and of the columns held
  abbrev row : ℕ
  row = c.strip_place-place.result.channel * l.rows + c.strip_place-place.result.row

  row_is : row * l.columns ≡ (strip_channel l t * l.rows + strip_row l t) * l.columns
  row_is = ap₂ (λ (m r : ℕ). (m * l.rows + r) * l.columns) c.strip_place-place.ensures.0 c.strip_place-place.ensures.1

  ends : row * l.columns + c.held_in-columns.result.first + c.held_in-columns.result.count ≤ l.outputs * l.rows * l.columns
  ends =
      let plan = c.requires.planned.0 in
      omega (arith, row_is, row_ends l plan t c.requires.planned.2 _ held, held.short)

  small : (row * l.columns + c.held_in-columns.result.first < 271063297) × (row < 131713)
  small =
      let plan = c.requires.planned.0 in
      let total = output_high l plan in
      let line : strip_channel l t * l.rows + strip_row l t < l.outputs * l.rows =
      digits_lt (strip_channel_lt l plan t c.requires.planned.2) (strip_row_lt l plan t) in
      let same : row ≡ strip_channel l t * l.rows + strip_row l t =
      ap₂ (λ (m r : ℕ). m * l.rows + r) c.strip_place-place.ensures.0 c.strip_place-place.ensures.1 in
      (omega (arith, ends), omega (arith, output_rows_high l plan))

pub overflow_mul-at : goal.overflow_mul-at
overflow_mul-at c = omega (arith, small (goal.at.overflow_mul-at c).After-held_in-columns)

pub overflow_add-at : goal.overflow_add-at
overflow_add-at c = omega (arith, small (goal.at.overflow_add-at c).After-held_in-columns)

pub overflow_mul-at-2 : goal.overflow_mul-at-2
overflow_mul-at-2 c = omega (arith, small (goal.at.overflow_mul-at-2 c).After-held_in-columns)

pub overflow_add-at-2 : goal.overflow_add-at-2
overflow_add-at-2 c = omega (arith, small (goal.at.overflow_add-at-2 c).After-held_in-columns)

pub overflow_add-end : goal.overflow_add-end
overflow_add-end c = omega (arith, small (goal.at.overflow_add-end c).After-held_in-columns, ends (goal.at.overflow_add-end c).After-held_in-columns)

pub offset_bounds-output-at : goal.offset_bounds-output-at
offset_bounds-output-at c = omega (arith, small (goal.at.offset_bounds-output-at c).After-held_in-columns)

pub slice_bounds-store_columns-end : goal.slice_bounds-store_columns-end
slice_bounds-store_columns-end c =
    omega (arith, ends (goal.at.slice_bounds-store_columns-end c).After-held_in-columns, c.requires.planned.1)

pub store_columns-requires : goal.store_columns-requires
store_columns-requires c =
    let layer = c.args.layer in
    let out = c.args.output.now in
    let (plan, length, below, words) = c.requires.planned in
    let found = (goal.at.store_columns-requires c).After-held_in-columns in
    let at : ℕ = row found * layer.columns + c.held_in-columns.result.first in
    let count : ℕ = c.held_in-columns.result.count in
    let size = length-take-le (at + count - at) (drop at out) (omega (arith, length-drop at out, ends found, length)) in
    let fits = run_fits layer plan c.args.strip below c.held_in-columns.result (held found) c.args.words.now length words c.requires.by_index in
    (plan, lent_storable c.args.words.now _ _ _ (size ∙ omega arith) fits)

pub returns : goal.returns
returns c =
    let found = (goal.at.returns c).After-held_in-columns in
    strip_stored c.args.layer c.requires.planned.0 c.args.strip c.requires.planned.2 c.held_in-columns.result (held found)
    c.args.words.now _ (ap₂ ◌+◌ (row_is found) refl) refl refl
    (row_lent c.args.words.now _ _ _ (omega arith) (omega (arith, ends found, c.requires.planned.1)) c.store_columns.ensures)
