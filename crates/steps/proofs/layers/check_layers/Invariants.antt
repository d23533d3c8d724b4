-- No rule of the layers before k is broken.
use mathlib.Core.Path.{◌≡◌}
use Rattle.base.specs.Rules.{first_broken}
use Rattle.steps.specs.Steps.{step_at}
use Rattle.steps.specs.Answer.{layers_rules}
use Rattle.steps.proofs.layers.check_layers.Given as goal

abbrev pub invariant-loop-k : goal.invariant-loop-k
invariant-loop-k l = 0 ≡ first_broken (layers_rules l.count (step_at l.steps) l.kernels l.k)
