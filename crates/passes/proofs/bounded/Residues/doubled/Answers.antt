-- Twice a bound is a bound.
use mathlib.Core.Path.{◌≡◌}
use Prim.Native.Nat.{◌*◌}
use native.Mathlib.Nat.{mul_comm}
use native.Mathlib.Omega.{arith}
use Rattle.passes.specs.WordLaws.{bound_times}
use Rattle.passes.proofs.bounded.Residues.doubled.Goals as goal

pub invariant_of-result : goal.invariant_of-result
invariant_of-result c =
    let words = c.args.self in
    let twice : 2 * words.bound ≡ words.bound * 2 = mul_comm 2 words.bound in
    record { bounded = rw twice (bound_times words.bounded 2 (omega arith) (omega arith)) }
