-- Row after row is taken from its column; then the other rows become 0.
use Rattle.std.proofs.Common.{◌*◌}
use Rattle.algebra.specs.Places.{Written, Run}
use Rattle.spectrum.specs.Corner.{transposed_word}
use Rattle.spectrum.proofs.corner.widen.Given as goal

abbrev pub invariant-loop-r : goal.invariant-loop-r
invariant-loop-r l = Written 0 (Run 0 (l.r * l.n)) (transposed_word l.n l.k l.initial.words) l.initial.words l.words
