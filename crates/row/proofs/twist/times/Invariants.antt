-- Word after word is multiplied and brought down.
use Rattle.std.proofs.Common.{◌*◌, get_or}
use Rattle.algebra.specs.EachWord.{WordsDone}
use Rattle.spectrum.specs.Product.{Settled}
use Rattle.row.proofs.twist.times.Given as goal

abbrev pub invariant-loop-j : goal.invariant-loop-j
invariant-loop-j l = WordsDone (λ p a b. Settled 4 (a * get_or l.factors p 0) b) l.j l.initial.words l.words
