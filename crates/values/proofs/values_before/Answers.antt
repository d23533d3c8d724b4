-- The part's plane, row and column among the parts, and the rows and columns before it. Found says what these come to.
use mathlib.Core.Path.{◌≡◌, ap, ◌∙◌}
use Prim.Native.Nat.{◌/◌, ◌%◌, ◌<◌, ◌≤◌}
use native.Mathlib.Nat.{mod-lt}
use native.Mathlib.Omega.{arith}
use Rattle.base.specs.Number.{ceiling_div}
use Rattle.layer.specs.declared.shape.Layer.{Layer}
use Rattle.layer.specs.Planned.{Planned}
use Rattle.layer.specs.Shape.{span}
use Rattle.layer.specs.TileSizeLaws.{rows_wanted, columns_wanted, parts_high}
use Rattle.checks.specs.declared.method.Method.{Method}
use Rattle.values.specs.PartSize.{part_height, part_width, parts_down, parts_across}
use Rattle.values.specs.PartSizeLaws.{height_range, width_range}
use Rattle.values.specs.BeforeLaws.{down_some, across_some}
use Rattle.values.proofs.Found.{Found, found_plane, found_rows, found_through, found_left, found_values}
use Rattle.values.proofs.values_before.Goals as goal
use Rattle.values.proofs.values_before.Goals.{After-held_before-left, After-parts_along-across}

-- the parts down and across are known
module _ (c : After-parts_along-across) where
  abbrev method : Method
  method = c.args.method

  abbrev layer : Layer
  layer = c.args.layer

  plan : Planned layer
  plan = c.requires.0

  height : c.part_height-height.result ≡ part_height method layer
  height = c.part_height-height.ensures

  width : c.part_width-width.result ≡ part_width method layer
  width = c.part_width-width.ensures

  down : c.parts_along-down.result ≡ parts_down method layer
  down = c.parts_along-down.ensures ∙ ap (ceiling_div (span layer layer.rows)) height

  across : c.parts_along-across.result ≡ parts_across method layer
  across = c.parts_along-across.ensures ∙ ap (ceiling_div (span layer layer.columns)) width

  divides_down : 0 < c.parts_along-down.result
  divides_down = omega (arith, down, down_some method layer plan)

  divides_across : 0 < c.parts_along-across.result
  divides_across = omega (arith, across, across_some method layer plan)

  -- the row of parts, and the one below it
  row_high : c.args.part / c.parts_along-across.result % c.parts_along-down.result < 8484
  row_high =
      omega (
        arith,
        mod-lt (c.args.part / c.parts_along-across.result) divides_down,
        down,
        parts_high layer layer.rows (rows_wanted layer plan) (part_height method layer) (height_range method layer plan.shape).1,
      )

  column_high : c.args.part % c.parts_along-across.result ≤ 8484
  column_high =
      omega (
        arith,
        mod-lt c.args.part divides_across,
        across,
        parts_high layer layer.columns (columns_wanted layer plan) (part_width method layer) (width_range method layer plan.shape).1,
      )

-- so are the rows and columns before the part
module _ (c : After-held_before-left) where
  abbrev sized : After-parts_along-across
  sized = c.before.before.before

  found : Found (method sized) (layer sized) c.args.part
      c.part_height-height.result c.part_width-width.result c.parts_along-down.result c.parts_along-across.result
      c.held_before-above.result c.held_before-through.result c.held_before-left.result
  found = record {
    height_is = height sized;
    width_is = width sized;
    down_is = c.parts_along-down.ensures;
    across_is = c.parts_along-across.ensures;
    above_is = c.held_before-above.ensures;
    through_is = c.held_before-through.ensures;
    left_is = c.held_before-left.ensures;
  }

pub nonzero_div-line : goal.nonzero_div-line
nonzero_div-line c = omega (arith, divides_across c)

pub nonzero_rem-row : goal.nonzero_rem-row
nonzero_rem-row c = omega (arith, divides_down c)

pub held_before-above-requires : goal.held_before-above-requires
held_before-above-requires c =
    let range = height_range (method c) (layer c) (plan c).shape in
    ((plan c).shape, omega (arith, height c, range.0), omega (arith, height c, range.1), omega (arith, row_high c))

pub overflow_add-row : goal.overflow_add-row
overflow_add-row c = omega (arith, row_high (goal.at.overflow_add-row c).After-parts_along-across)

pub held_before-through-requires : goal.held_before-through-requires
held_before-through-requires c =
    let sizes = (goal.at.held_before-through-requires c).After-parts_along-across in
    let range = height_range (method sizes) (layer sizes) (plan sizes).shape in
    ((plan sizes).shape, omega (arith, height sizes, range.0), omega (arith, height sizes, range.1), omega (arith, row_high sizes))

pub nonzero_rem-part : goal.nonzero_rem-part
nonzero_rem-part c = omega (arith, divides_across (goal.at.nonzero_rem-part c).After-parts_along-across)

pub held_before-left-requires : goal.held_before-left-requires
held_before-left-requires c =
    let sizes = (goal.at.held_before-left-requires c).After-parts_along-across in
    let range = width_range (method sizes) (layer sizes) (plan sizes).shape in
    ((plan sizes).shape, omega (arith, width sizes, range.0), omega (arith, width sizes, range.1), column_high sizes)

pub nonzero_div-line-2 : goal.nonzero_div-line-2
nonzero_div-line-2 c = omega (arith, divides_down (goal.at.nonzero_div-line-2 c).After-parts_along-across)

pub values_up_to-requires : goal.values_up_to-requires
values_up_to-requires c =
    let is = found (goal.at.values_up_to-requires c).After-held_before-left in
    let (planned, end) = c.requires in
    (planned, found_plane planned end is, found_rows planned end is, found_through planned end is, found_left planned end is)

pub returns : goal.returns
returns c = c.values_up_to.ensures ∙ found_values c.requires.0 c.requires.1 (found (goal.at.returns c).After-held_before-left)
