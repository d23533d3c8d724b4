use mathlib.Core.Path.{◌≡◌, ap₂, ◌∙◌}
use Prim.Native.Nat.{ℕ, ◌+◌, ◌*◌, ◌-◌, ◌<◌, ◌≤◌}
use native.Mathlib.Nat.{mul-le-mul, mul-le-mul_left, mul-le-mul_right}
use native.Mathlib.Omega.{arith}
use lib.Arith.{digits_lt}
use lib.ListN.{length, drop, length-drop}
use lib.Seq.{length-take-le}
use Rattle.fermat.specs.Field.{transform_length}
use Rattle.layer.specs.Shape.{grid_step}
use Rattle.layer.specs.TileSizeLaws.{length_high}
use Rattle.store.specs.LentLaws.{lent_storable, row_lent}
use Rattle.store.proofs.StoredRows.{words_within, offset_high, row_storable, rows_next}
use Rattle.store.proofs.store_rows_apart.Given.{Over}
use Rattle.store.proofs.store_rows_apart.Goals as goal
use Rattle.store.proofs.store_rows_apart.Goals.{In-loop-r}

-- in a turn
module _ (g : Over) (c : In-loop-r g) where
  -- there is room for the row
  room : let a = c.args in let row : ℕ = a.rows.first + c.loop-r.r in
      (row * a.layer.columns + a.layer.columns ≤ length a.output.now) × (row ≤ row * a.layer.columns)
  room =
      let row : ℕ = c.args.rows.first + c.loop-r.r in
      let below : row + 1 ≤ c.args.rows.first + c.args.rows.count = omega (arith, c.loop-r-test.true) in (
        omega (arith, mul-le-mul_right c.args.layer.columns below, c.requires.columns_in_bounds.0),
        omega (arith, mul-le-mul_left row c.requires.planned.0.columns_low),
      )

  -- its words are in one of the N rows, and the first of them in one of the N columns
  first_word : let a = c.args in let n = c.transform_length-n.result in
      let row : ℕ = a.rows.word + c.loop-r.r * g.row.STEP in
      (row < n) × (row * n + a.columns.word < n * n) × (n * n ≤ length a.words.now) × (n * n ≤ 64 * 64)
  first_word =
      let n = c.transform_length-n in
      let within = words_within c.args.layer c.args.rows c.requires.planned.1 c.loop-r.r c.loop-r-test.true in
      let row = rw (← n.ensures, ← c.requires.step) at within in
      let column : c.args.columns.word < n.result = omega (arith, n.ensures, c.requires.planned.2) in
      let high : n.result ≤ 64 = omega (arith, n.ensures, length_high _ c.requires.planned.0.shape) in
      (row, digits_lt row column, rw (← n.ensures) at c.requires.field_in_bounds.0, mul-le-mul {n₂ = 64} {m₂ = 64} high high)

  -- where its words begin
  first_is : let a = c.args in let r = c.loop-r.r in
      (a.rows.word + r * g.row.STEP) * c.transform_length-n.result + a.columns.word
      ≡ (a.rows.word + r * grid_step a.layer) * transform_length a.layer.field + a.columns.word
  first_is =
      let a = c.args in
      ap₂ (λ (step n : ℕ). (a.rows.word + c.loop-r.r * step) * n + a.columns.word)
      c.requires.step c.transform_length-n.ensures

pub overflow_mul-from-in-loop-r : goal.overflow_mul-from-in-loop-r
overflow_mul-from-in-loop-r g c = omega (arith, first_word g (goal.at.overflow_mul-from-in-loop-r g c).In-loop-r)

pub overflow_add-from-in-loop-r : goal.overflow_add-from-in-loop-r
overflow_add-from-in-loop-r g c = omega (arith, first_word g (goal.at.overflow_add-from-in-loop-r g c).In-loop-r)

pub offset_bounds-words-from : goal.offset_bounds-words-from
offset_bounds-words-from g c = omega (arith, first_word g (goal.at.offset_bounds-words-from g c).In-loop-r)

pub slice_bounds-store_row-count-in-loop-r : goal.slice_bounds-store_row-count-in-loop-r
slice_bounds-store_row-count-in-loop-r g c = omega (arith, first_word g (goal.at.slice_bounds-store_row-count-in-loop-r g c).In-loop-r)

pub slice_bounds-store_row-start-in-loop-r : goal.slice_bounds-store_row-start-in-loop-r
slice_bounds-store_row-start-in-loop-r g c = omega (arith, first_word g (goal.at.slice_bounds-store_row-start-in-loop-r g c).In-loop-r)

pub store_row-requires : goal.store_row-requires
store_row-requires g c =
    let here = (goal.at.store_row-requires g c).In-loop-r in
    let at : ℕ = (c.args.rows.first + c.loop-r.r) * c.args.layer.columns + c.args.columns.first in
    let rest = drop at c.loop-r.output in
    let size = length-take-le (at + c.args.columns.count - at) rest (omega (arith, length-drop at c.loop-r.output, c.loop-r.auto.output, room g here, c.requires.columns_in_bounds)) in (
      rw c.offset_of-offset.ensures (offset_high _ c.requires.planned.0.shape.field_high),
      lent_storable c.args.words.now _ _ _ (size ∙ omega arith)
          (row_storable c.args.layer c.args.rows c.args.columns c.args.words.now c.requires.field_in_bounds.0 c.requires.planned.1
          c.requires.planned.2 c.requires.field_in_bounds.1 c.loop-r.r c.loop-r-test.true c.offset_of-offset.ensures
          c.requires.step (first_is g here)),
    )

pub loop-r-preserved : goal.loop-r-preserved
loop-r-preserved g c =
    let here = (goal.at.loop-r-preserved g c).In-loop-r in
    rows_next c.args.layer c.args.rows c.args.columns c.args.words.now c.requires.columns_in_bounds.1 c.loop-r.r
    c.offset_of-offset.ensures c.requires.step (first_is g here) c.loop-r.invariant
    (row_lent c.args.words.now _ _ _ (omega arith) (omega (arith, c.loop-r.auto.output, room g here, c.requires.columns_in_bounds)) c.store_row.ensures)
