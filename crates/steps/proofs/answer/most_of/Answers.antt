use mathlib.Core.Path.{◌≡◌, sym, ap, ap₂, ◌∙◌}
use Prim.Native.Nat.{ℕ, max}
use Rattle.std.specs.Ordering.{ord_max}
use Rattle.std.proofs.Common.{nat_cmp}
use native.Mathlib.Omega.{arith}
use Rattle.algebra.specs.GreatestLaws.{greatest_none, greatest_next}
use Rattle.layer.specs.Planned.{Planned}
use Rattle.layer.specs.Shape.{output_count, scratch_words}
use Rattle.steps.specs.declared.step.Step.{Step}
use Rattle.steps.proofs.answer.most_of.Goals as goal
use Rattle.steps.proofs.answer.most_of.Goals.{After-step_at-step}

-- the greater of two, as the library makes it
max_is : (a b : ℕ) → ord_max nat_cmp a b ≡ max a b
max_is a b = grind arith

planned_step : (c : After-step_at-step) → Planned c.step_at-step.result.layer
planned_step c = rw c.step_at-step.ensures (c.requires.layers c.loop-k.k (omega arith))

pub loop-k-init : goal.loop-k-init
loop-k-init c = (sym (greatest_none _), sym (greatest_none _))

pub step_at-step-requires : goal.step_at-step-requires
step_at-step-requires c = omega (arith, c.requires.count_high)

pub output_count-requires : goal.output_count-requires
output_count-requires c = planned_step (goal.at.output_count-requires c).After-step_at-step

pub scratch_words-requires : goal.scratch_words-requires
scratch_words-requires c = (planned_step (goal.at.scratch_words-requires c).After-step_at-step).shape

pub loop-k-preserved : goal.loop-k-preserved
loop-k-preserved c =
    let outputs = c.output_count.ensures ∙ ap (λ (s : Step). output_count s.layer) c.step_at-step.ensures in
    let scratch = c.scratch_words.ensures ∙ ap (λ (s : Step). scratch_words s.layer) c.step_at-step.ensures in (
      c.max-outputs.ensures ∙ max_is _ _ ∙ ap₂ max c.loop-k.invariant.0 outputs ∙ sym (greatest_next c.loop-k.k _),
      c.max-scratch.ensures ∙ max_is _ _ ∙ ap₂ max c.loop-k.invariant.1 scratch ∙ sym (greatest_next c.loop-k.k _),
    )

pub returns : goal.returns
returns c =
    let done : c.loop-k.k ≡ c.args.count = omega arith in
    record { outputs_value = rw done at c.loop-k.invariant.0; scratch_value = rw done at c.loop-k.invariant.1 }
