use Rattle.std.proofs.Common.{arith}
use Rattle.algebra.specs.EachWord.{words_none, words_next}
use Rattle.spectrum.proofs.product.settle.Goals as goal

pub loop-word-init : goal.loop-word-init
loop-word-init g c = words_none

pub loop-word-preserved : goal.loop-word-preserved
loop-word-preserved g c = words_next _ (omega arith) c.loop-word.invariant c.settled.ensures

pub returns : goal.returns
returns g c i l = c.loop-word.invariant.done i (omega arith)
