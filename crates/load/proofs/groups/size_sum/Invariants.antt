-- `size_sum` adds size after size: the sum so far is that of the places before i. It rests on the law of the last summand.
use mathlib.Core.Path.{◌≡◌}
use Prim.Native.Nat.{◌*◌, ◌≤◌}
use lib.IntN.{pos, nat_abs}
use lib.ListN.{get_or}
use Rattle.algebra.specs.Sum.{sum}
use Rattle.load.proofs.groups.size_sum.Given as goal

abbrev pub invariant-loop-v : goal.invariant-loop-v
invariant-loop-v l = (l.total ≡ sum l.v-index (λ k. nat_abs (get_or l.run k (pos 0)))) × (l.total ≤ 32768 * l.v-index)
