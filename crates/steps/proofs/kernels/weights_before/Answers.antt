use mathlib.Core.Path.{◌≡◌, sym, ap}
use Prim.Native.Nat.{◌≤◌}
use native.Mathlib.Omega.{arith}
use Rattle.layer.specs.Shape.{kernel_count}
use Rattle.layer.specs.Planned.{Planned}
use Rattle.layer.specs.CountLaws.{kernel_high}
use Rattle.steps.specs.declared.step.Step.{Step}
use Rattle.steps.specs.Steps.{step_at}
use Rattle.steps.specs.StepsLaws.{weights_none, weights_next}
use Rattle.steps.proofs.kernels.weights_before.Goals as goal
use Rattle.steps.proofs.kernels.weights_before.Goals.{After-kernel_count-before, After-step_at-step}

planned_layer : (c : After-step_at-step) → Planned c.step_at-step.result.layer
planned_layer c =
    rw c.step_at-step.ensures (c.requires.1 c.loop-i.i (omega arith))

counted : (c : After-kernel_count-before) → c.kernel_count-before.result ≤ 495616
counted c = omega (arith, c.kernel_count-before.ensures, kernel_high _ (planned_layer c.before.before).shape)

pub loop-i-init : goal.loop-i-init
loop-i-init c = (sym (weights_none _), omega arith)

pub kernel_count-before-requires : goal.kernel_count-before-requires
kernel_count-before-requires c =
    let r = (planned_layer (goal.at.kernel_count-before-requires c).After-step_at-step).shape in
    (r.inputs_high, r.outputs_high, omega (arith, r.side_high))

pub overflow_add-before : goal.overflow_add-before
overflow_add-before c = omega (arith, counted c)

pub loop-i-preserved : goal.loop-i-preserved
loop-i-preserved c =
    let own = ap (λ (s : Step). kernel_count s.layer) c.step_at-step.ensures in (
      omega (arith, weights_next (step_at c.args.steps.now) c.loop-i.i, c.loop-i.invariant.0, c.kernel_count-before.ensures, own),
      omega (arith, counted c),
    )

pub returns : goal.returns
returns c =
    let done : c.loop-i.i ≡ c.args.k = omega arith in
    (rw done at c.loop-i.invariant.0, omega arith)
