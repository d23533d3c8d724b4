-- Value after value is written; `state` is the number after as many steps as values. A value drawn is at most twice the peak.
use mathlib.Core.Path.{◌≡◌}
use Prim.Native.Nat.{suc}
use lib.IntN.{pos}
use Rattle.algebra.specs.Places.{Written, Run}
use Rattle.vectors.specs.Sequence.{number_after, value_of}
use Rattle.vectors.proofs.sequence.draw_values.Given as goal

abbrev pub invariant-loop-value : goal.invariant-loop-value
invariant-loop-value l =
    (l.state ≡ number_after l.value-index l.seed)
    × Written (pos 0) (Run 0 l.value-index) (λ place. value_of l.peak (number_after (suc place) l.seed)) l.initial.values l.values
