-- Twice the modulus is a bound in every field, and fits a word.
use native.Mathlib.Omega.{arith}
use Rattle.fermat.specs.FieldSizeLaws.{power_high}
use Rattle.passes.specs.GridLaws.{row_bound}
use Rattle.passes.proofs.bounded.Residues.of_field.Goals as goal

pub overflow_mul-result : goal.overflow_mul-result
overflow_mul-result c = omega (arith, power_high c.args.field c.requires)

pub invariant_of-result : goal.invariant_of-result
invariant_of-result c = rw (c.bits_of.ensures, c.modulus_of.ensures) record { bounded = row_bound c.args.field c.requires }
