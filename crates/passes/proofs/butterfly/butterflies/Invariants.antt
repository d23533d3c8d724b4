-- The pairs of the first k lanes are changed, the others as lent.
use Rattle.algebra.specs.Places.{Run}
use Rattle.passes.specs.Butterfly.{StepMakes, Paired}
use Rattle.passes.proofs.butterfly.butterflies.Given as goal

abbrev pub invariant-loop-k : goal.invariant-loop-k
invariant-loop-k g l =
    Paired (λ _. StepMakes g.B.Butterfly.step l.residues.bits l.residues.bound l.t) (Run l.at l.k) l.half l.initial.words l.words
