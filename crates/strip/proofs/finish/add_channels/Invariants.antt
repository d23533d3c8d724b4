-- Map channel after map channel is added; at the end all are.
use Rattle.strip.specs.Rows.{StripAdded}
use Rattle.strip.proofs.finish.add_channels.Given as goal

abbrev pub invariant-loop-c : goal.invariant-loop-c
invariant-loop-c l = StripAdded l.layer l.map l.kernel l.origin l.c 0 l.initial.scratch l.scratch
