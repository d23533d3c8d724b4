-- `write_row` writes value after value.
use Rattle.std.proofs.Common.{◌≡◌, ℕ, ◌+◌, ◌*◌, ◌<◌, pos, get_or}
use Rattle.worst.specs.Worst.{value_at}
use Rattle.worst.proofs.values.write_row.Given as goal

abbrev pub invariant-loop-j : goal.invariant-loop-j
invariant-loop-j l =
    (k : ℕ) → k < l.j → get_or l.row k (pos 0) ≡ value_at l.layer l.kernel l.output (l.line * l.layer.width + k)
