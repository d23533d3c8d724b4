use mathlib.Core.Path.{◌≡◌, refl, sym}
use Prim.Native.Nat.{ℕ, suc}
use native.Mathlib.Numerals.{add-one}
use native.Mathlib.Omega.{arith}
use Rattle.base.specs.Rules.{first_broken}
use Rattle.base.specs.RefusalsLaws.{handed_on, second_decides, number_above}
use Rattle.steps.specs.declared.step.Step.{Step}
use Rattle.steps.specs.Steps.{step_at}
use Rattle.steps.specs.Answer.{layers_rules}
use Rattle.steps.specs.AnswerLaws.{rules_at, layers_numbered, layers_stop}
use Rattle.steps.specs.LinkedLaws.{layers_usable, layer_planned}
use Rattle.steps.proofs.layers.check_layers.Goals as goal
use Rattle.steps.proofs.layers.check_layers.Goals.{In-loop-k}

-- where the layers before k are kept, the answer of layer k is that of the first k + 1 layers
module _ (c : In-loop-k) where
  abbrev steps : ℕ → Step
  steps = step_at c.args.steps.now

  up_to : {code : ℕ} → code ≡ first_broken (rules_at c.args.count steps c.args.kernels.now c.loop-k.k)
      → code ≡ first_broken (layers_rules c.args.count steps c.args.kernels.now (suc c.loop-k.k))
  up_to own =
      let a = c.args in
      let k = c.loop-k.k in
      second_decides (layers_rules a.count steps a.kernels.now k) (rules_at a.count steps a.kernels.now k) (layers_numbered a.count steps a.kernels.now k)
      c.loop-k.invariant own

pub loop-k-init : goal.loop-k-init
loop-k-init c = refl

pub weights_before-before-requires : goal.weights_before-before-requires
weights_before-before-requires c =
    let a = c.args in
    (omega arith, λ i l. layer_planned (layers_usable a.count (step_at a.steps.now) a.kernels.now c.loop-k.k (sym c.loop-k.invariant) i l))

pub returns-in_err-check_layer : goal.returns-in_err-check_layer
returns-in_err-check_layer c =
    let turn = (goal.at.returns-in_err-check_layer c).In-loop-k in
    let own = rw (c.step_at.ensures, c.weights_before-before.ensures.0) at c.in_err-check_layer.ensures in
    handed_on _ _ c.from_residual.ensures
    (layers_stop c.args.count (steps turn) c.args.kernels.now (suc c.loop-k.k) c.args.count (omega arith) (up_to turn own)
    (λ z. omega (arith, number_above c.in_err-check_layer.field-0.0)))

pub loop-k-preserved : goal.loop-k-preserved
loop-k-preserved c =
    let turn = (goal.at.loop-k-preserved c).In-loop-k in
    let own = rw (c.step_at.ensures, c.weights_before-before.ensures.0) at c.in_ok-check_layer.ensures in
    rw add-one (up_to turn own)

pub returns : goal.returns
returns c =
    let done : c.loop-k.k ≡ c.args.count = omega arith in
    rw done at c.loop-k.invariant
