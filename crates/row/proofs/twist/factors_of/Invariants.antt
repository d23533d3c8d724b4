-- Factor after factor is taken from the table.
use Rattle.std.proofs.Common.{◌≡◌, ◌*◌, ◌^◌, ◌<◌, length}
use Rattle.algebra.specs.Congruence.{Cong}
use Rattle.algebra.specs.EachWord.{WordsDone}
use Rattle.row.specs.Powers.{row_root}
use Rattle.row.proofs.twist.factors_of.Given as goal

abbrev pub invariant-loop-j : goal.invariant-loop-j
invariant-loop-j l =
    (length l.initial.factor-items ≡ 16)
    × WordsDone (λ j _ b. Cong 65537 b (row_root ^ (j * l.step)) × (b < 65537)) l.j l.initial.factor-items l.factor-items
