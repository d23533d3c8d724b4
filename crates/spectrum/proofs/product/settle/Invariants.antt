-- Word after word is brought down.
use Rattle.algebra.specs.EachWord.{WordsDone}
use Rattle.spectrum.specs.Product.{Settled}
use Rattle.spectrum.proofs.product.settle.Given as goal

abbrev pub invariant-loop-word : goal.invariant-loop-word
invariant-loop-word g l = WordsDone (λ _ a b. Settled g.F.Field.number a b) l.word-index l.initial.words l.words
