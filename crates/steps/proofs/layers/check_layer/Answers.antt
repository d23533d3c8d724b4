-- The rules are asked in three lists: those of the plan, 11 and 14, and those of the kernel. Each list is asked where those before it are kept.
use mathlib.Core.Path.{◌≡◌, sym, ap, ◌∙◌}
use mathlib.Core.List.{List, ◌++◌}
use Prim.Native.Nat.{ℕ, ◌+◌, ◌-◌, ◌≤◌}
use native.Mathlib.Omega.{arith}
use lib.ListN.{length, take, drop, length-take, length-drop}
use Rattle.base.specs.Rules.{Rule, first_broken}
use Rattle.base.specs.RulesLaws.{none_broken, inside_high}
use Rattle.base.specs.RefusalsLaws.{handed_on, first_refuses, second_decides, required-steps}
use Rattle.layer.specs.Shape.{kernel_count}
use Rattle.layer.specs.Planned.{Planned}
use Rattle.layer.specs.CountLaws.{kernel_high}
use Rattle.load.specs.Weights.{Weighted}
use Rattle.load.proofs.LoadLaws.{weighted}
use Rattle.checks.specs.Checks.{plan_code}
use Rattle.checks.specs.ChecksLaws.{planned}
use Rattle.checks.specs.EngineLaws.{tile_lawful}
use Rattle.steps.specs.Steps.{kernel_from}
use Rattle.steps.specs.StepsLaws.{kernel_part}
use Rattle.steps.specs.Answer.{enough, plan_rules, part_rules, kernel_rules}
use Rattle.steps.specs.LinkedLaws.{enough_weights}
use Rattle.steps.proofs.layers.check_layer.Goals as goal
use Rattle.steps.proofs.layers.check_layer.Goals.{After-is_enough, In_ok-check_plan, Start}

module _ (s : Start) where
  abbrev rules_of_plan : List Rule
  rules_of_plan = plan_rules s.args.step

  abbrev rules_of_part : List Rule
  rules_of_part = part_rules s.args.step s.args.last s.args.before (length s.args.kernels.now)

  abbrev rules_of_kernel : List Rule
  rules_of_kernel = kernel_rules s.args.step (kernel_from s.args.step s.args.before s.args.kernels.now)

  abbrev answer : ℕ
  answer = first_broken (rules_of_plan ++ rules_of_part ++ rules_of_kernel)

plan : (c : In_ok-check_plan) → Planned c.args.step.layer
plan c = planned tile_lawful _ (sym c.in_ok-check_plan.ensures)

-- where the plan is kept, the other rules decide
after_plan : (s : Start) → 0 ≡ first_broken (rules_of_plan s) → {code : ℕ} → code ≡ first_broken (rules_of_part s ++ rules_of_kernel s) → code ≡ answer s
after_plan s kept = second_decides (rules_of_plan s) (rules_of_part s ++ rules_of_kernel s) tt kept

pub returns-in_err-check_plan : goal.returns-in_err-check_plan
unfolding plan_code
returns-in_err-check_plan c =
    let s = (goal.at.returns-in_err-check_plan c).Start in
    handed_on _ _ c.from_residual.ensures (first_refuses (rules_of_plan s) (rules_of_part s ++ rules_of_kernel s) _ c.in_err-check_plan.ensures)

pub kernel_count-requires : goal.kernel_count-requires
kernel_count-requires c =
    let r = (plan (goal.at.kernel_count-requires c).In_ok-check_plan).shape in
    (r.inputs_high, r.outputs_high, omega (arith, r.side_high))

pub overflow_add-to : goal.overflow_add-to
overflow_add-to c = omega (arith, c.kernel_count.ensures, kernel_high _ (plan (goal.at.overflow_add-to c).In_ok-check_plan).shape)

-- where the layer's weights end, and the test of 11
module _ (c : After-is_enough) where
  ends : c.args.before + c.kernel_count.result ≡ c.args.before + kernel_count c.args.step.layer
  ends = omega (arith, c.kernel_count.ensures)

  enough_is : c.is_enough.result ≡ enough c.args.last (c.args.before + kernel_count c.args.step.layer) (length c.args.kernels.now)
  enough_is = c.is_enough.ensures ∙ ap (λ (n : ℕ). enough c.args.last n (length c.args.kernels.now)) ends

pub returns-in_err-require : goal.returns-in_err-require
unfolding plan_code
returns-in_err-require c =
    let at = goal.at.returns-in_err-require c in
    let known = enough_is at.After-is_enough in
    handed_on _ _ c.from_residual-in_err-require.ensures (after_plan at.Start c.in_ok-check_plan.ensures (search required-steps depth 20))

pub returns-in_err-require-2 : goal.returns-in_err-require-2
unfolding plan_code
returns-in_err-require-2 c =
    let at = goal.at.returns-in_err-require-2 c in
    let known = enough_is at.After-is_enough in
    handed_on _ _ c.from_residual-in_err-require-2.ensures (after_plan at.Start c.in_ok-check_plan.ensures (search required-steps depth 20 fits 4000))

-- where the second list is kept, the kernel has all its weights
module _ (s : Start) (count : ℕ) (counted : count ≡ kernel_count s.args.step.layer) where
  kernel_is : take (s.args.before + count - s.args.before) (drop s.args.before s.args.kernels.now) ≡ kernel_from s.args.step s.args.before s.args.kernels.now
  kernel_is = kernel_part s.args.step s.args.kernels.now s.args.before count counted

  module _ (kept : 0 ≡ first_broken (rules_of_part s)) where
    weights_in : s.args.before + count ≤ length s.args.kernels.now
    weights_in =
        let a = s.args in
        let hold = none_broken (rules_of_part s) tt (sym kept) in
        omega (arith, counted, enough_weights a.last (a.before + kernel_count a.step.layer) (length a.kernels.now) search)

    kernel_weighted : Planned s.args.step.layer → Weighted s.args.step.layer (kernel_from s.args.step s.args.before s.args.kernels.now)
    kernel_weighted planned_layer =
        let a = s.args in
        let hold = none_broken (rules_of_part s) tt (sym kept) in
        weighted a.step.layer _ planned_layer.shape (inside_high 1 32767 a.step.layer.peak search)
        (simp (length-take, length-drop) (omega (arith, weights_in, counted)))

pub slice_bounds-check_kernel-end : goal.slice_bounds-check_kernel-end
slice_bounds-check_kernel-end c =
    let at = goal.at.slice_bounds-check_kernel-end c in
    let known = enough_is at.After-is_enough in
    let kept : 0 ≡ first_broken (rules_of_part at.Start) = search required-steps depth 20 fits 4000 in
    weights_in at.Start _ c.kernel_count.ensures kept

pub check_kernel-requires : goal.check_kernel-requires
check_kernel-requires c =
    let at = goal.at.check_kernel-requires c in
    let known = enough_is at.After-is_enough in
    let kept : 0 ≡ first_broken (rules_of_part at.Start) = search required-steps depth 20 fits 4000 in
    rw (kernel_is at.Start _ c.kernel_count.ensures) (kernel_weighted at.Start _ c.kernel_count.ensures kept (plan at.In_ok-check_plan))

pub returns : goal.returns
unfolding plan_code
returns c =
    let at = goal.at.returns c in
    let known = enough_is at.After-is_enough in
    let kept : 0 ≡ first_broken (rules_of_part at.Start) = search required-steps depth 20 fits 4000 in
    after_plan at.Start c.in_ok-check_plan.ensures
    (second_decides (rules_of_part at.Start) (rules_of_kernel at.Start) tt kept (rw (kernel_is at.Start _ c.kernel_count.ensures) at c.check_kernel.ensures))
