-- The sum so far is the total of what was given so far.
use Rattle.joined.specs.Terms.{TotalOf}
use Rattle.joined.proofs.sums.total.Given as goal

abbrev pub invariant-loop-j : goal.invariant-loop-j
invariant-loop-j g l = TotalOf (goal.F-post g l.term) l.from l.j l.sum
