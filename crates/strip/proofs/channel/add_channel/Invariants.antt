-- Kernel row after kernel row is added or left out; then the sum is brought down. Adding has the laws.
use Rattle.strip.proofs.Adding.{RowsAdded}
use Rattle.strip.proofs.channel.add_channel.Given as goal

abbrev pub invariant-loop-a : goal.invariant-loop-a
invariant-loop-a l = RowsAdded l.layer l.map l.kernel l.origin l.c l.a l.initial.scratch l.scratch
