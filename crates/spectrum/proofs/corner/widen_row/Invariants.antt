-- Word after word of the row is taken from the column.
use Rattle.std.proofs.Common.{◌*◌}
use Rattle.algebra.specs.Places.{Written, Run}
use Rattle.spectrum.specs.Corner.{transposed_word}
use Rattle.spectrum.proofs.corner.widen_row.Given as goal

abbrev pub invariant-loop-c : goal.invariant-loop-c
invariant-loop-c l = Written 0 (Run (l.r * l.n) l.c) (transposed_word l.n l.k l.initial.words) l.initial.words l.words
