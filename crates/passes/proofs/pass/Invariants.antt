-- The state of the loop: the blocks before this one are done, and the others are as they were.
use Prim.Native.Nat.{◌-◌}
use lib.ListN.{length}
use Rattle.passes.proofs.Blocks.{Blocks}
use Rattle.passes.proofs.pass.Given as goal

abbrev pub invariant-loop-at : goal.invariant-loop-at
invariant-loop-at g l = Blocks g.B.Butterfly.step l.residues.bits l.residues.bound l.unit l.rows l.lanes l.half l.at l.initial.words l.words

abbrev pub decreases-loop-at : goal.decreases-loop-at
decreases-loop-at g l = length l.initial.words - l.at
