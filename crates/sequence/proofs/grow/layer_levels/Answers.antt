-- The part of the map that is lent holds the levels when it is back.
use mathlib.Core.Path.{◌≡◌, sym, ap, ◌∙◌}
use native.Mathlib.Omega.{arith}
use lib.Seq.{length-take-le}
use Rattle.layer.specs.Shape.{output_count}
use Rattle.steps.specs.declared.step.Step.{Step}
use Rattle.steps.specs.Steps.{step_at}
use Rattle.sequence.proofs.Fronts.{levels_left_lem}
use Rattle.sequence.proofs.grow.layer_levels.Goals as goal
use Rattle.sequence.proofs.grow.layer_levels.Goals.{After-output_count-n}

-- the step's outputs, as the code counts them
counted : (c : After-output_count-n) → c.output_count-n.result ≡ output_count (step_at c.args.steps.now c.args.k).layer
counted c =
    c.output_count-n.ensures ∙ ap (λ (t : Step). output_count t.layer) c.step_at-step.ensures

pub output_count-n-requires : goal.output_count-n-requires
output_count-n-requires c = rw c.step_at-step.ensures c.requires.1.plan

pub slice_bounds-levels-end : goal.slice_bounds-levels-end
slice_bounds-levels-end c =
    sym (length-take-le _ _ (omega (arith, counted c, c.requires.1.output_room)))

pub slice_bounds-levels-end-2 : goal.slice_bounds-levels-end-2
slice_bounds-levels-end-2 c =
    omega (arith, counted c, c.requires.1.map_room)

pub slice_bounds-levels-end-3 : goal.slice_bounds-levels-end-3
slice_bounds-levels-end-3 c =
    sym (length-take-le _ _ (omega (arith, counted (goal.at.slice_bounds-levels-end-3 c).After-output_count-n, c.requires.1.map_room)))

pub returns : goal.returns
returns c =
    levels_left_lem c.args.output.now c.args.map.now c.step_at-step.ensures c.output_count-n.ensures
    c.requires.1 c.levels.ensures.levels_after
