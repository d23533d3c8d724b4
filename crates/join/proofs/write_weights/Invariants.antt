-- Weight after weight is written.
use Rattle.std.proofs.Common.{◌≡◌, ℕ, ◌<◌, pos, get_or}
use Rattle.joined.specs.Joined.{joined_at}
use Rattle.join.proofs.write_weights.Given as goal

abbrev pub invariant-loop-p : goal.invariant-loop-p
invariant-loop-p l = (k : ℕ) → k < l.p → get_or l.joined k (pos 0) ≡ joined_at l.filters.first l.filters.first_kernel.now l.filters.second l.filters.second_kernel.now k
