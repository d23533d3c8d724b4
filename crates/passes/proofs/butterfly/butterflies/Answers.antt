-- In a turn, the two words are as they were lent, and one pair more is changed.
use native.Mathlib.Omega.{arith}
use Rattle.passes.specs.Butterfly.{StepMakes}
use Rattle.passes.proofs.Pairs.{paired_longer}
use Rattle.passes.proofs.butterfly.butterflies.Goals as goal

pub loop-k-preserved : goal.loop-k-preserved
loop-k-preserved g c =
    let a = c.args in
    paired_longer (StepMakes g.B.Butterfly.step a.residues.bits a.residues.bound a.t) a.at c.loop-k.k a.half c.pair-pair.result.low
    c.pair-pair.result.high a.words.now c.loop-k.words (omega arith) (omega arith) c.loop-k.invariant c.pair-pair.ensures
