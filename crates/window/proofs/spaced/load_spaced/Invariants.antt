-- Value after value is loaded.
use Prim.Native.Nat.{◌/◌}
use lib.Dec.{T}
use lib.IntN.{pos}
use lib.ListN.{get_or}
use Rattle.layer.specs.Windows.{spread}
use Rattle.window.specs.Loaded.{Loaded}
use Rattle.window.proofs.spaced.load_spaced.Given as goal

abbrev pub invariant-loop-i : goal.invariant-loop-i
invariant-loop-i g l =
    Loaded l.modulus (λ p. T (spread g.row.SPACING 0 l.i p)) (λ p. get_or l.values (p / g.row.SPACING) (pos 0)) l.initial.words l.words
