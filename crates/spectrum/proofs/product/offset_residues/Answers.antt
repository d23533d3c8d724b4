use Rattle.std.proofs.Common.{arith}
use Rattle.algebra.specs.EachWord.{words_none, words_next}
use Rattle.spectrum.proofs.product.offset_residues.Goals as goal

pub loop-word-init : goal.loop-word-init
loop-word-init c = words_none

pub offset_residue-requires : goal.offset_residue-requires
offset_residue-requires c =
    let i = c.loop-word.word-index in
    (rw (c.loop-word.invariant.left i (omega arith)) (c.requires.1 i (omega arith)), c.requires.0)

pub loop-word-preserved : goal.loop-word-preserved
loop-word-preserved c = words_next _ (omega arith) c.loop-word.invariant c.offset_residue.ensures

pub returns : goal.returns
returns c i l = c.loop-word.invariant.done i (omega arith)
