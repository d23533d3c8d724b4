-- `bits_of` is 2 to the power of the field's number: the shift cuts nothing.
use mathlib.Core.Path.{◌∙◌}
use native.Mathlib.Omega.{arith}
use lib.Pow.{shl_exact}
use Rattle.fermat.proofs.field.bits_of.Goals as goal

pub returns : goal.returns
returns c = shl_exact {a = 1} 1 c.args.field 32 (omega arith) (omega arith) ∙ omega arith
