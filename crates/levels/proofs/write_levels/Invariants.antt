-- Level after level is written.
use Rattle.std.proofs.Common.{◌≡◌, ℕ, ◌<◌, pos, get_or}
use Rattle.levels.specs.Level.{level}
use Rattle.levels.proofs.write_levels.Given as goal

abbrev pub invariant-loop-i : goal.invariant-loop-i
invariant-loop-i l = (k : ℕ) → k < l.i → get_or l.levels k (pos 0) ≡ level l.shift l.bound (get_or l.outputs k (pos 0))
