-- `step_at` reads the layer from the row's first sixteen numbers, then the two that follow.
use Rattle.steps.specs.Steps.{step_at}
use Rattle.steps.proofs.step.step_at.Goals as goal

pub returns : goal.returns
unfolding step_at
returns c =
    rw (c.layer_of.ensures, c.layer_numbers-numbers.ensures)
