-- The steps are those of `forward_row`, which rests on the sizes of the fields.
use mathlib.Core.Path.{◌∙◌}
use native.Mathlib.Omega.{arith}
use Rattle.fermat.specs.FieldSizeLaws.{power_high}
use Rattle.passes.specs.GridLaws.{row_grid, row-passes}
use Rattle.transform.proofs.Rows.{row_most, row_filled, forward_row}
use Rattle.transform.proofs.ForwardRowTransform.replace.Goals as goal

pub forward-requires : goal.forward-requires
forward-requires c =
    let a = c.requires in
    rw (c.of_field.ensures.0, c.of_field.ensures.1)
    record { grid = row_grid _ a.field_high a.same_length; at_most = row_most a; filled = row_filled a }

pub reorder-requires : goal.reorder-requires
reorder-requires c = rw c.halvings_of.ensures (c.forward.auto.words ∙ c.requires.same_length, omega arith)

pub scale-requires : goal.scale-requires
scale-requires c = omega (arith, power_high _ c.requires.field_high)

pub returns : goal.returns
returns c =
    let a = c.requires in
    let passed-size = c.forward.auto.words ∙ a.same_length in
    let ordered-size = c.reorder.auto.words ∙ passed-size in
    forward_row _ _ c.forward.new.words c.reorder.new.words _ passed-size ordered-size (c.scale.auto.words ∙ ordered-size)
    (rw (← c.of_field.ensures.0, ← row-passes _ a.field_high a.same_length) c.forward.ensures.forward)
    (rw (← c.halvings_of.ensures) c.reorder.ensures)
    (rw c.modulus_of.ensures at c.scale.ensures)
