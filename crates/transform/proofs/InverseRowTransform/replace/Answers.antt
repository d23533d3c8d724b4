-- The steps are those of `inverse_row`, which rests on the sizes of the fields.
use mathlib.Core.Path.{◌∙◌}
use native.Mathlib.Omega.{arith}
use Rattle.algebra.specs.PowerLaws.{pow_one}
use Rattle.fermat.specs.FieldSizeLaws.{power_high, scale_lt}
use Rattle.passes.specs.GridLaws.{row_grid, row-passes}
use Rattle.transform.proofs.Rows.{ordered_most, inverse_row}
use Rattle.transform.proofs.InverseRowTransform.replace.Goals as goal

pub reorder-requires : goal.reorder-requires
reorder-requires c = rw c.halvings_of.ensures (c.requires.same_length, omega arith)

pub inverse-requires : goal.inverse-requires
inverse-requires c =
    let made = c.reorder in
    let a = c.requires in
    let most = ordered_most a made.new.words (made.auto.words ∙ a.same_length) (rw (← c.halvings_of.ensures) made.ensures) in
    rw (c.of_field.ensures.0, c.of_field.ensures.1)
    record { grid = rw made.auto.words (row_grid _ a.field_high a.same_length); at_most = most }

pub scale-requires : goal.scale-requires
scale-requires c =
    let a = c.requires in
    omega (arith, power_high _ a.field_high, scale_lt _ (omega arith) a.field_high)

pub returns : goal.returns
returns c =
    let a = c.requires in
    let ordered-size = c.reorder.auto.words ∙ a.same_length in
    let passed-size = c.inverse.auto.words ∙ ordered-size in
    inverse_row _ _ c.reorder.new.words c.inverse.new.words _ ordered-size passed-size (c.scale.auto.words ∙ passed-size)
    a.same_length (rw (← c.halvings_of.ensures) c.reorder.ensures)
    (rw (← c.of_field.ensures.0, ← row-passes _ a.field_high a.same_length) (rw pow_one at c.inverse.ensures.inverse))
    (rw (c.scale_of.ensures, c.modulus_of.ensures) at c.scale.ensures)
