-- Row after row is multiplied by its powers of the root.
use mathlib.Core.Path.{◌≡◌}
use lib.ListN.{length}
use Rattle.row.proofs.TwistedRows.{Twisting}
use Rattle.row.proofs.twist.twist.Given as goal

abbrev pub invariant-loop-r : goal.invariant-loop-r
invariant-loop-r l =
    (length l.words ≡ 256) × Twisting l.unit l.r l.initial.words l.words
