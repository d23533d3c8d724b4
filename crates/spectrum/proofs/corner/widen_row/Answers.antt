use Rattle.std.proofs.Common.{arith}
use Rattle.spectrum.proofs.Widening.{widen_step}
use Rattle.spectrum.proofs.corner.widen_row.Goals as goal

pub loop-c-preserved : goal.loop-c-preserved
loop-c-preserved c =
    let a = c.args in
    widen_step a.n a.k a.r c.loop-c.c c.requires.0 c.requires.1 c.requires.2 c.loop-c-test.true (omega arith) c.loop-c.invariant
