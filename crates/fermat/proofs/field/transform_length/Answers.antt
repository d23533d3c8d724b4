-- `transform_length` is N: the shift cuts nothing.
use native.Mathlib.Omega.{arith}
use Rattle.fermat.specs.FieldSizeLaws.{shifted}
use Rattle.fermat.proofs.field.transform_length.Goals as goal

pub returns : goal.returns
returns c = shifted c.halvings_of.ensures (omega arith)
