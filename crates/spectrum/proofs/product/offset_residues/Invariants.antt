-- Word after word becomes a residue.
use Rattle.algebra.specs.EachWord.{WordsDone}
use Rattle.spectrum.specs.Product.{OffsetResidue}
use Rattle.spectrum.proofs.product.offset_residues.Given as goal

abbrev pub invariant-loop-word : goal.invariant-loop-word
invariant-loop-word l = WordsDone (λ _ a b. OffsetResidue l.bits l.rest a b) l.word-index l.initial.words l.words
