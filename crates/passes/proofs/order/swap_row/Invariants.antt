-- The words whose lower index lies in row r are exchanged: places up to the diagonal are not the lower of two, and the loop takes the others.
use Prim.Native.Nat.{◌+◌, ◌*◌}
use Rattle.passes.specs.Order.{across, Exchanged}
use Rattle.passes.proofs.order.swap_row.Given as goal

abbrev pub invariant-loop-k : goal.invariant-loop-k
invariant-loop-k l = Exchanged (across l.n) (l.r * l.n) (l.r * l.n + l.k) l.initial.words l.words
