-- As many bits as turns were made stand in r in reverse order; the others are left in q.
use mathlib.Core.Path.{◌≡◌}
use Prim.Native.Nat.{◌+◌, ◌-◌, ◌*◌, ◌^◌}
use Rattle.passes.specs.Order.{reversed}
use Rattle.passes.proofs.order.reverse.Given as goal

abbrev pub invariant-loop : goal.invariant-loop
invariant-loop l = reversed l.halvings l.k ≡ l.r * 2 ^ (l.halvings - l.counter) + reversed (l.halvings - l.counter) l.q
