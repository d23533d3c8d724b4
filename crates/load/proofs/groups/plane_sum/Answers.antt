-- `plane_sum` takes the sum of all sizes where the step is 1. It rests on the law of the whole plane.
use mathlib.Core.Path.{◌∙◌}
use native.Mathlib.Omega.{arith}
use Rattle.load.proofs.GroupSums.{whole_plane}
use Rattle.load.proofs.groups.plane_sum.Goals as goal

pub returns-then-group-eq1 : goal.returns-then-group-eq1
returns-then-group-eq1 c =
    let step = c.if-group-eq1.true in
    let g = c.requires.0 in (
      c.size_sum.ensures.0
          ∙ whole_plane c.args.side _ c.args.group c.requires.2 step (omega (arith, step, g.row_below)) (omega (arith, step, g.column_below)),
      c.size_sum.ensures.1,
    )
