-- The rules 24 and 16 are asked first, then 20 of the shift and of the bound.
use mathlib.Core.List.{List, [], ◌∷◌}
use Rattle.base.specs.Rules.{Rule}
use Rattle.base.specs.RefusalsLaws.{handed_on, first_refuses, second_decides, required-steps}
use Rattle.checks.specs.Checks.{weight_rules}
use Rattle.levels.specs.Answer.{shift_rule, bound_rule}
use Rattle.steps.proofs.layers.check_kernel.Goals as goal
use Rattle.steps.proofs.layers.check_kernel.Goals.{Start}

module _ (s : Start) where
  abbrev rules_of_weights : List Rule
  rules_of_weights = weight_rules s.args.step.layer s.args.kernel.now

  abbrev rules_of_levels : List Rule
  rules_of_levels = shift_rule s.args.step.shift ∷ bound_rule s.args.step.bound ∷ []

pub returns-in_err-check_weights : goal.returns-in_err-check_weights
returns-in_err-check_weights c =
    let s = (goal.at.returns-in_err-check_weights c).Start in
    handed_on _ _ c.from_residual.ensures (first_refuses (rules_of_weights s) (rules_of_levels s) _ c.in_err-check_weights.ensures)

pub returns-in_err-require : goal.returns-in_err-require
returns-in_err-require c =
    let s = (goal.at.returns-in_err-require c).Start in
    handed_on _ _ c.from_residual-in_err-require.ensures
    (second_decides (rules_of_weights s) (rules_of_levels s) tt c.in_ok-check_weights.ensures (search required-steps depth 20))

pub returns : goal.returns
returns c =
    let s = (goal.at.returns c).Start in
    second_decides (rules_of_weights s) (rules_of_levels s) tt c.in_ok-check_weights.ensures (search required-steps depth 20 fits 4000)
