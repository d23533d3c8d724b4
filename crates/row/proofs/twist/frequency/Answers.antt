-- The frequency of a row, from its index with the bits in reverse order.
use mathlib.Core.Path.{ap}
use Prim.Native.Nat.{ℕ, ◌*◌, ◌%◌}
use native.Mathlib.Omega.{arith}
use Rattle.passes.specs.OrderLaws.{reversed_lt}
use Rattle.row.proofs.twist.frequency.Goals as goal

pub overflow_mul-result : goal.overflow_mul-result
overflow_mul-result c = omega (arith, c.reverse.ensures, reversed_lt 4 c.args.r (omega arith))

pub returns : goal.returns
returns c = ap (λ (i : ℕ). 11 * i % 16) c.reverse.ensures
