-- The words are exchanged along `reversed`, index after index.
use Rattle.passes.specs.Order.{reversed, Exchanged}
use Rattle.passes.proofs.order.reorder.Given as goal

abbrev pub invariant-loop-k : goal.invariant-loop-k
invariant-loop-k l = Exchanged (reversed l.halvings) 0 l.k l.initial.words l.words
