-- The part from the weights before step k up to those before the next is its kernel.
use mathlib.Core.Path.{◌≡◌, ap, ◌∙◌}
use Prim.Native.Nat.{ℕ, ◌+◌, ◌≤◌}
use native.Mathlib.Omega.{arith}
use lib.ListN.{length}
use Rattle.layer.specs.Planned.{Planned}
use Rattle.layer.specs.Shape.{kernel_count}
use Rattle.layer.specs.CountLaws.{kernel_high}
use Rattle.steps.specs.declared.step.Step.{Step}
use Rattle.steps.specs.Steps.{step_at, kernel_from}
use Rattle.steps.specs.StepsLaws.{kernel_part}
use Rattle.steps.specs.LinkedLaws.{layer_planned}
use Rattle.steps.proofs.kernels.kernel_of.Goals as goal
use Rattle.steps.proofs.kernels.kernel_of.Goals.{After-kernel_count, After-step_at-step}

module _ (c : After-step_at-step) where
  planned_layer : Planned c.step_at-step.result.layer
  planned_layer = rw c.step_at-step.ensures (layer_planned (c.requires.1 c.args.k (omega arith)))

-- where the kernel ends
module _ (c : After-kernel_count) where
  own : c.kernel_count.result ≡ kernel_count (step_at c.args.steps.now c.args.k).layer
  own = c.kernel_count.ensures ∙ ap (λ (s : Step). kernel_count s.layer) c.step_at-step.ensures

  weights_in : c.weights_before-from.result + c.kernel_count.result ≤ length c.args.kernels.now
  weights_in = omega (arith, own, c.weights_before-from.ensures.0, (c.requires.1 c.args.k (omega arith)).weights)

pub weights_before-from-requires : goal.weights_before-from-requires
weights_before-from-requires c = (omega arith, λ i l. layer_planned (c.requires.1 i (omega arith)))

pub kernel_count-requires : goal.kernel_count-requires
kernel_count-requires c =
    let r = (planned_layer (goal.at.kernel_count-requires c).After-step_at-step).shape in
    (r.inputs_high, r.outputs_high, omega (arith, r.side_high))

pub overflow_add-to : goal.overflow_add-to
overflow_add-to c = omega (arith, c.kernel_count.ensures, kernel_high _ (planned_layer (goal.at.overflow_add-to c).After-step_at-step).shape)

pub slice_bounds-result-end : goal.slice_bounds-result-end
slice_bounds-result-end c = weights_in c

pub returns : goal.returns
returns c =
    let step = step_at c.args.steps.now c.args.k in
    let before = c.weights_before-from in
    kernel_part step c.args.kernels.now before.result _ (own (goal.at.returns c).After-kernel_count)
    ∙ ap (λ (n : ℕ). kernel_from step n c.args.kernels.now) before.ensures.0
