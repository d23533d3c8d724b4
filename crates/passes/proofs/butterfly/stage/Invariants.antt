-- The rows from 1 to r - 1 are done. Row 0 completes the stage.
use Rattle.passes.proofs.Stages.{Rows}
use Rattle.passes.proofs.butterfly.stage.Given as goal

abbrev pub invariant-loop-r : goal.invariant-loop-r
invariant-loop-r g l = Rows g.B.Butterfly.step l.residues.bits l.residues.bound l.unit l.half l.lanes l.r l.initial.words l.words
