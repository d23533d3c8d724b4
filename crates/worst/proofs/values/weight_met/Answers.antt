-- `weight_met`: where the place lies in the output's window, the weight is read at its row and column; else there is none.
use mathlib.Core.Path.{◌≡◌, sym, ap₂, ◌∙◌}
use mathlib.Core.Bool.{true, ◌&&◌}
use Prim.Native.Nat.{ℕ, ◌+◌, ◌*◌, ◌-◌, ◌<◌, ◌≤◌}
use native.Mathlib.Nat.{mul-le-mul}
use native.Mathlib.Omega.{arith}
use borrow.Author.Rules.{sfits_of}
use lib.Arith.{digits_lt}
use lib.ListN.{length}
use mir.Facts.{to_z-of_z}
use mir.Syntax.{w16}
use Rattle.algebra.specs.EveryLaws.{both_true}
use Rattle.layer.specs.CountLaws.{planes_high, kernel_high}
use Rattle.layer.specs.declared.shape.Layer.{Layer}
use Rattle.layer.specs.WindowLaws.{within_is}
use Rattle.worst.specs.WindowLaws.{window_begins}
use Rattle.worst.specs.WorstLaws.{row_met, column_met, weight_outside, weight_inside}
use Rattle.worst.proofs.values.weight_met.Goals as goal
use Rattle.worst.proofs.values.weight_met.Goals.{After-is_within-in_columns, Start, Then-in_rows-in_columns}

module _ (s : Start) where
  top_high : s.args.output.row * s.args.layer.stride ≤ 8232
  top_high =
      let p = s.requires.0.accepted.plan in
      window_begins s.args.layer p.shape _ (omega (arith, s.requires.0.row_in, p.full_height_high))

  left_high : s.args.output.column * s.args.layer.stride ≤ 8232
  left_high =
      let p = s.requires.0.accepted.plan in
      window_begins s.args.layer p.shape _ (omega (arith, s.requires.0.column_in, p.full_width_high))

  weights_most : length s.args.kernel.now ≤ 495616
  weights_most = omega (arith, s.requires.0.accepted.weights.weights, kernel_high s.args.layer s.requires.0.accepted.plan.shape)

-- the two tests together
met : (c : After-is_within-in_columns) → let a = c.args in
    c.is_within-in_rows.result && c.is_within-in_columns.result
    ≡ row_met a.layer a.output a.i && column_met a.layer a.output a.j
met c = ap₂ ◌&&◌ c.is_within-in_rows.ensures c.is_within-in_columns.ensures

-- the place lies in the window: its row and column there, and the weight's plane, line and place in the kernel
module _ (c : Then-in_rows-in_columns) where
  abbrev l : Layer
  l = c.args.layer

  -- the window's first row and column, counted from the first of the padding, and the place's
  abbrev top : ℕ
  top = c.args.output.row * l.stride

  abbrev left : ℕ
  left = c.args.output.column * l.stride

  abbrev row : ℕ
  row = c.args.i + l.padding

  abbrev column : ℕ
  column = c.args.j + l.padding

  inside : (c.is_within-in_rows.result ≡ true) × (c.is_within-in_columns.result ≡ true)
  inside = both_true _ _ c.if-in_rows-in_columns.true

  in_row : (top ≤ row) × (row - top < l.side)
  in_row = within_is _ _ _ (rw (sym c.is_within-in_rows.ensures ∙ inside.0) tt)

  in_column : (left ≤ column) × (column - left < l.side)
  in_column = within_is _ _ _ (rw (sym c.is_within-in_columns.ensures ∙ inside.1) tt)

  abbrev plane : ℕ
  plane = c.args.output.channel * l.inputs + c.args.c

  abbrev line : ℕ
  line = plane * l.side + (row - top)

  plane_in : (plane < l.outputs * l.inputs) × (l.outputs * l.inputs ≤ 4096)
  plane_in = (digits_lt c.requires.0.channel_in c.requires.1, planes_high _ c.requires.0.accepted.plan.shape)

  line_in : (line < l.outputs * l.inputs * l.side) × (l.outputs * l.inputs * l.side ≤ 45056)
  line_in = (digits_lt plane_in.0 in_row.1, mul-le-mul {n₂ = 4096} {m₂ = 11} plane_in.1 c.requires.0.accepted.plan.shape.side_high)

  place_in : line * l.side + (column - left) < length c.args.kernel.now
  place_in =
      let below : line * l.side + (column - left) < l.outputs * l.inputs * l.side * l.side
      = digits_lt line_in.0 in_column.1 in
      omega (arith, c.requires.0.accepted.weights.weights)

pub overflow_mul-top : goal.overflow_mul-top
overflow_mul-top c = omega (arith, top_high (goal.at.overflow_mul-top c).Start)

pub overflow_mul-left : goal.overflow_mul-left
overflow_mul-left c = omega (arith, left_high (goal.at.overflow_mul-left c).Start)

pub overflow_mul-plane : goal.overflow_mul-plane
overflow_mul-plane c = omega (arith, plane_in (goal.at.overflow_mul-plane c).Then-in_rows-in_columns)

pub overflow_add-plane : goal.overflow_add-plane
overflow_add-plane c = omega (arith, plane_in (goal.at.overflow_add-plane c).Then-in_rows-in_columns)

pub overflow_mul-line : goal.overflow_mul-line
overflow_mul-line c = omega (arith, line_in (goal.at.overflow_mul-line c).Then-in_rows-in_columns)

pub overflow_sub-line : goal.overflow_sub-line
overflow_sub-line c = (in_row (goal.at.overflow_sub-line c).Then-in_rows-in_columns).0

pub overflow_add-line : goal.overflow_add-line
overflow_add-line c = omega (arith, line_in (goal.at.overflow_add-line c).Then-in_rows-in_columns)

pub overflow_mul-result : goal.overflow_mul-result
overflow_mul-result c =
    let at = goal.at.overflow_mul-result c in
    omega (arith, place_in at.Then-in_rows-in_columns, weights_most at.Start)

pub overflow_sub-result : goal.overflow_sub-result
overflow_sub-result c = (in_column (goal.at.overflow_sub-result c).Then-in_rows-in_columns).0

pub overflow_add-result : goal.overflow_add-result
overflow_add-result c =
    let at = goal.at.overflow_add-result c in
    omega (arith, place_in at.Then-in_rows-in_columns, weights_most at.Start)

pub offset_bounds-kernel-line : goal.offset_bounds-kernel-line
offset_bounds-kernel-line c =
    let at = goal.at.offset_bounds-kernel-line c in
    omega (arith, place_in at.Then-in_rows-in_columns, weights_most at.Start)

pub bounds-kernel-line : goal.bounds-kernel-line
bounds-kernel-line c = place_in (goal.at.bounds-kernel-line c).Then-in_rows-in_columns

pub returns-then-in_rows-in_columns : goal.returns-then-in_rows-in_columns
returns-then-in_rows-in_columns c =
    let a = c.args in
    let tests = met (goal.at.returns-then-in_rows-in_columns c).After-is_within-in_columns in
    to_z-of_z {w = w16} (search sfits_of)
    ∙ sym (weight_inside a.layer a.kernel.now a.output a.c a.i a.j c.requires.0.accepted.conv_kind (sym tests ∙ c.if-in_rows-in_columns.true))

pub returns : goal.returns
returns c =
    let a = c.args in
    let tests = met (goal.at.returns c).After-is_within-in_columns in
    sym (weight_outside a.layer a.kernel.now a.output a.c a.i a.j (sym tests ∙ c.if-in_rows-in_columns.false))
