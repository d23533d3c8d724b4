-- The words are exchanged along `across`, row after row.
use Prim.Native.Nat.{◌*◌}
use Rattle.passes.specs.Order.{across, Exchanged}
use Rattle.passes.proofs.order.transpose.Given as goal

abbrev pub invariant-loop-r : goal.invariant-loop-r
invariant-loop-r l = Exchanged (across l.n) 0 (l.r * l.n) l.initial.words l.words
