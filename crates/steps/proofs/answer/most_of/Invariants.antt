-- `most_of` takes the greatest of layer after layer.
use mathlib.Core.Path.{◌≡◌}
use Rattle.steps.specs.Steps.{step_at}
use Rattle.steps.specs.Lent.{most_outputs, most_scratch}
use Rattle.steps.proofs.answer.most_of.Given as goal

abbrev pub invariant-loop-k : goal.invariant-loop-k
invariant-loop-k l = (l.outputs ≡ most_outputs l.k (step_at l.steps)) × (l.scratch ≡ most_scratch l.k (step_at l.steps))
