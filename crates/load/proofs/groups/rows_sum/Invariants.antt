-- `rows_sum` adds the sums of every step-th row: the sum so far is that of the group's rows before a. It rests on the laws of such loops.
use Prim.Native.Nat.{◌+◌, ◌*◌, ◌-◌, ◌≤◌}
use lib.IntN.{pos, nat_abs}
use lib.ListN.{get_or}
use Rattle.load.specs.Weights.{apart}
use Rattle.load.proofs.Apart.{SummedTo}
use Rattle.load.proofs.groups.rows_sum.Given as goal

abbrev pub invariant-loop-a : goal.invariant-loop-a
invariant-loop-a l =
    SummedTo l.fn.group.step l.fn.group.row l.side (λ k. apart l.fn.group.step l.fn.group.column l.side (λ b. nat_abs (get_or l.plane (k * l.side + b) (pos 0)))) l.a l.total
    × (l.total ≤ 32768 * 11 * l.a) × (l.total ≤ 32768 * 11 * l.side)

abbrev pub decreases-loop-a : goal.decreases-loop-a
decreases-loop-a l = l.side - l.a
