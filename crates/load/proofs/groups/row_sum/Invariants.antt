-- `row_sum` adds the sizes at every step-th column: the sum so far is that of the group's columns before b. It rests on the laws of such loops.
use Prim.Native.Nat.{◌+◌, ◌*◌, ◌-◌, ◌≤◌}
use lib.IntN.{pos, nat_abs}
use lib.ListN.{get_or}
use Rattle.load.proofs.Apart.{SummedTo}
use Rattle.load.proofs.groups.row_sum.Given as goal

abbrev pub invariant-loop-b : goal.invariant-loop-b
invariant-loop-b l =
    SummedTo l.fn.group.step l.fn.group.column l.side (λ k. nat_abs (get_or l.plane (l.from + k) (pos 0))) l.b l.total × (l.total ≤ 32768 * l.b) × (l.total ≤ 32768 * l.side)

abbrev pub decreases-loop-b : goal.decreases-loop-b
decreases-loop-b l = l.side - l.b
