-- Value after value is written; `drawn` is the seed after as many draws as values.
use Rattle.std.proofs.Common.{◌≡◌, ℕ, suc, ◌<◌, pos, get_or}
use Rattle.noise.specs.Draw.{seed_after, noise_value, seed_count}
use Rattle.noise.proofs.fill.Given as goal

abbrev pub invariant-loop-value : goal.invariant-loop-value
invariant-loop-value l =
    (l.drawn ≡ seed_after seed_count l.value-index l.seed)
    × ((k : ℕ) → k < l.value-index → get_or l.map k (pos 0) ≡ noise_value (seed_after seed_count (suc k) l.seed))
