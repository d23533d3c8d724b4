-- `first_held` divides small numbers; std's quotient rounded up is the definition's.
use mathlib.Core.Path.{◌∙◌}
use Prim.Native.Nat.{◌*◌, ◌≤◌}
use native.Mathlib.Nat.{mul-le-mul}
use native.Mathlib.Omega.{arith}
use Rattle.base.specs.NumberLaws.{div_ceil_is}
use Rattle.store.proofs.first_held.Goals as goal

pub overflow_mul-part : goal.overflow_mul-part
overflow_mul-part c = let product : c.args.part * c.args.side ≤ 8292 * 256 = mul-le-mul c.requires.0 c.requires.1 in omega (arith, product)

pub returns : goal.returns
returns c = c.div_ceil.ensures ∙ div_ceil_is _ _ c.requires.2
