-- The rules are asked in three lists: 21, those of the layers, and 22. Each list is asked where those before it are kept.
use mathlib.Core.Path.{◌≡◌, sym}
use mathlib.Core.List.{List, [], ◌∷◌, ◌++◌}
use Prim.Native.Nat.{ℕ}
use Rattle.base.specs.Rules.{Rule, first_broken}
use Rattle.base.specs.RulesLaws.{none_broken, inside_low, inside_high}
use Rattle.base.specs.RefusalsLaws.{handed_on, first_refuses, second_decides, required-steps}
use Rattle.steps.specs.Steps.{step_at}
use Rattle.steps.specs.Answer.{count_rule, layers_rules, link_rule, steps_code}
use Rattle.steps.specs.AnswerLaws.{layers_numbered}
use Rattle.steps.proofs.check_steps.Goals as goal
use Rattle.steps.proofs.check_steps.Goals.{Start, In_ok-require}

module _ (s : Start) where
  abbrev rules_of_count : List Rule
  rules_of_count = count_rule s.args.count ∷ []

  abbrev rules_of_layers : List Rule
  rules_of_layers = layers_rules s.args.count (step_at s.args.steps.now) s.args.kernels.now s.args.count

  abbrev rules_of_links : List Rule
  rules_of_links = link_rule s.args.count (step_at s.args.steps.now) ∷ []

  abbrev answer : ℕ
  answer = steps_code s.args.count (step_at s.args.steps.now) s.args.kernels.now

  -- where 21 is kept, the other rules decide
  after_count : 0 ≡ first_broken rules_of_count → {code : ℕ} → code ≡ first_broken (rules_of_layers ++ rules_of_links) → code ≡ answer
  unfolding steps_code
  after_count kept = second_decides rules_of_count (rules_of_layers ++ rules_of_links) tt kept

  after_layers : 0 ≡ first_broken rules_of_count → 0 ≡ first_broken rules_of_layers → {code : ℕ} → code ≡ first_broken rules_of_links → code ≡ answer
  after_layers kept layers_kept e =
      let numbered = layers_numbered s.args.count (step_at s.args.steps.now) s.args.kernels.now s.args.count in
      after_count kept (second_decides rules_of_layers rules_of_links numbered layers_kept e)

count_kept : (c : In_ok-require) → 0 ≡ first_broken (count_rule c.args.count ∷ [])
count_kept c = search required-steps depth 20

pub returns-in_err-require : goal.returns-in_err-require
unfolding steps_code
returns-in_err-require c = handed_on _ _ c.from_residual.ensures (search required-steps depth 20)

pub check_layers-requires : goal.check_layers-requires
check_layers-requires c = inside_high 1 8 _ (none_broken (count_rule c.args.count ∷ []) tt (sym (count_kept c))).0

pub returns-in_err-check_layers : goal.returns-in_err-check_layers
returns-in_err-check_layers c =
    let at = goal.at.returns-in_err-check_layers c in
    handed_on _ _ c.from_residual-in_err-check_layers.ensures
    (after_count at.Start (count_kept at.In_ok-require)
    (first_refuses (rules_of_layers at.Start) (rules_of_links at.Start) _ c.in_err-check_layers.ensures))

pub all_follow-requires : goal.all_follow-requires
all_follow-requires c =
    let range = (none_broken (count_rule c.args.count ∷ []) tt (sym (count_kept (goal.at.all_follow-requires c).In_ok-require))).0 in
    (inside_low 1 8 _ range, inside_high 1 8 _ range)

pub returns : goal.returns
returns c =
    let at = goal.at.returns c in
    after_layers at.Start (count_kept at.In_ok-require) c.in_ok-check_layers.ensures (search required-steps depth 20)
