-- The rules are asked in five lists: those of the planner, 10 to 14, 15 and 25, 24 and 16, and 17. Each list is asked where those before it are kept.
use mathlib.Core.Path.{◌≡◌, refl, sym, ap, ◌∙◌}
use mathlib.Core.List.{List, ◌++◌}
use Prim.Native.Nat.{ℕ}
use borrow.Author.Tests.{eqb-true}
use lib.Dec.{leb}
use lib.ListN.{length}
use Rattle.base.specs.declared.rules.Refusal.TheVariants.{Index}
use Rattle.base.specs.Refusals.{number_of}
use Rattle.base.specs.Rules.{Rule, first_broken}
use Rattle.base.specs.RulesLaws.{none_broken, inside_high}
use Rattle.base.specs.RefusalsLaws.{first_refuses, second_decides, passes, breaks}
use Rattle.layer.specs.Planned.{Planned}
use Rattle.layer.specs.Shape.{kernel_count}
use Rattle.load.proofs.LoadLaws.{weighted}
use Rattle.checks.specs.declared.calls.Checked.{Checked}
use Rattle.checks.specs.Checks.{shape_rules, output_rules, lent_rules, map_value_rules, weight_rules, job_rules, plan_code, job_code}
use Rattle.checks.specs.ChecksLaws.{planned}
use Rattle.checks.specs.Engine.{Engine, engine_of}
use Rattle.checks.specs.EngineLaws.{lawful}
use Rattle.checks.specs.FoundLaws.{found_code, found_place, found_same}
use Rattle.checks.proofs.calls.check_call.Goals as goal
use Rattle.checks.proofs.calls.check_call.Goals.{Start}

module _ (s : Start) where
  abbrev engine : Engine
  engine = engine_of s.args.method

  abbrev rules_of_plan : List Rule
  rules_of_plan = shape_rules engine.last_field s.args.layer ++ output_rules s.args.layer

  abbrev rules_of_lent : List Rule
  rules_of_lent = lent_rules (engine.words s.args.layer) s.args.layer s.args.map.now s.args.kernel.now s.args.output s.args.scratch

  abbrev rules_of_map : List Rule
  rules_of_map = map_value_rules s.args.layer s.args.map.now

  abbrev rules_of_weights : List Rule
  rules_of_weights = weight_rules s.args.layer s.args.kernel.now

  abbrev rules_of_index : List Rule
  rules_of_index = job_rules (engine.total s.args.layer) s.args.next

  abbrev answer : ℕ
  answer = job_code engine s.args.layer s.args.next s.args.map.now s.args.kernel.now s.args.output s.args.scratch

  -- where the first list is kept, the others decide, and so on
  module _ (plan_kept : 0 ≡ plan_code engine s.args.layer) where
    plan : Planned s.args.layer
    plan = planned (lawful s.args.method) _ (sym plan_kept)

    after_plan : {code : ℕ} → code ≡ first_broken (rules_of_lent ++ rules_of_map ++ rules_of_weights ++ rules_of_index) → code ≡ answer
    unfolding plan_code job_code
    after_plan = second_decides rules_of_plan (rules_of_lent ++ rules_of_map ++ rules_of_weights ++ rules_of_index) tt plan_kept

    module _ (lent_kept : 0 ≡ first_broken rules_of_lent) where
      after_lent : {code : ℕ} → code ≡ first_broken (rules_of_map ++ rules_of_weights ++ rules_of_index) → code ≡ answer
      after_lent e = after_plan (second_decides rules_of_lent (rules_of_map ++ rules_of_weights ++ rules_of_index) tt lent_kept e)

      module _ (map_kept : 0 ≡ first_broken rules_of_map) where
        after_map : {code : ℕ} → code ≡ first_broken (rules_of_weights ++ rules_of_index) → code ≡ answer
        after_map e = after_lent (second_decides rules_of_map (rules_of_weights ++ rules_of_index) tt map_kept e)

        module _ (weights_kept : 0 ≡ first_broken rules_of_weights) where
          after_weights : {code : ℕ} → code ≡ first_broken rules_of_index → code ≡ answer
          after_weights e = after_map (second_decides rules_of_weights rules_of_index tt weights_kept e)

pub returns-in_err-check_plan : goal.returns-in_err-check_plan
unfolding plan_code job_code
returns-in_err-check_plan c =
    let s = (goal.at.returns-in_err-check_plan c).Start in
    let rest = rules_of_lent s ++ rules_of_map s ++ rules_of_weights s ++ rules_of_index s in
    record {
      code_value = found_code _ _ c.from_residual.ensures (first_refuses (rules_of_plan s) rest _ c.in_err-check_plan.ensures);
      offender_value = found_place _ _ (rules_of_plan s) tt _ _ c.from_residual.ensures c.in_err-check_plan.ensures;
    }

pub scratch_words-words-requires : goal.scratch_words-words-requires
scratch_words-words-requires c = (plan (goal.at.scratch_words-words-requires c).Start c.in_ok-check_plan.ensures).shape

pub check_lent-requires : goal.check_lent-requires
check_lent-requires c = plan (goal.at.check_lent-requires c).Start c.in_ok-check_plan.ensures

pub returns-in_err-check_lent : goal.returns-in_err-check_lent
returns-in_err-check_lent c =
    let s = (goal.at.returns-in_err-check_lent c).Start in
    let broken = rw c.scratch_words-words.ensures at c.in_err-check_lent.ensures in
    let rest = rules_of_map s ++ rules_of_weights s ++ rules_of_index s in
    let from = c.from_residual-in_err-check_lent.ensures in
    record {
      code_value = found_code _ _ from (after_plan s c.in_ok-check_plan.ensures (first_refuses (rules_of_lent s) rest _ broken));
      offender_value = found_place _ _ (rules_of_lent s) tt _ _ from broken;
    }

pub returns-in_err-check_map_values-clause-code_value : goal.returns-in_err-check_map_values-clause-code_value
returns-in_err-check_map_values-clause-code_value c =
    let s = (goal.at.returns-in_err-check_map_values-clause-code_value c).Start in
    ap (λ (checked : Checked). checked.code) (found_same _ _ c.from_residual-in_err-check_map_values.ensures)
    ∙ after_lent s c.in_ok-check_plan.ensures (rw c.scratch_words-words.ensures at c.in_ok-check_lent.ensures)
    (first_refuses (rules_of_map s) (rules_of_weights s ++ rules_of_index s) _ c.in_err-check_map_values.ensures.code_value)

pub check_weights-requires : goal.check_weights-requires
check_weights-requires c =
    let s = (goal.at.check_weights-requires c).Start in
    let l = s.args.layer in
    let shape = (plan s c.in_ok-check_plan.ensures).shape in
    let hold = none_broken (rules_of_lent s) tt (sym (rw c.scratch_words-words.ensures at c.in_ok-check_lent.ensures)) in
    weighted l s.args.kernel.now shape (inside_high 1 32767 l.peak search) (eqb-true (length s.args.kernel.now) (kernel_count l) search)

pub returns-in_err-check_weights : goal.returns-in_err-check_weights
returns-in_err-check_weights c =
    let s = (goal.at.returns-in_err-check_weights c).Start in
    let from = c.from_residual-in_err-check_weights.ensures in
    record {
      code_value =
          found_code _ _ from
          (after_map s c.in_ok-check_plan.ensures (rw c.scratch_words-words.ensures at c.in_ok-check_lent.ensures)
          c.in_ok-check_map_values.ensures.code_value (first_refuses (rules_of_weights s) (rules_of_index s) _ c.in_err-check_weights.ensures));
      offender_value = found_place _ _ (rules_of_weights s) tt _ _ from c.in_err-check_weights.ensures;
    }

pub part_total-requires : goal.part_total-requires
part_total-requires c = plan (goal.at.part_total-requires c).Start c.in_ok-check_plan.ensures

pub returns-in_err-require : goal.returns-in_err-require
returns-in_err-require c =
    let s = (goal.at.returns-in_err-require c).Start in
    let from = c.from_residual-in_err-require.ensures in
    let broken : number_of c.in_err-require.field-0.0 ≡ first_broken (rules_of_index s)
    = breaks Index 17 _ _ _ 0 c.require.ensures c.branch-require.ensures c.in_err-require.is (ap (leb s.args.next) c.part_total.ensures) refl in
    record {
      code_value =
          found_code _ _ from
          (after_weights s c.in_ok-check_plan.ensures (rw c.scratch_words-words.ensures at c.in_ok-check_lent.ensures)
          c.in_ok-check_map_values.ensures.code_value c.in_ok-check_weights.ensures broken);
      offender_value = found_place _ _ (rules_of_index s) tt _ _ from broken;
    }

pub returns-clause-code_value : goal.returns-clause-code_value
returns-clause-code_value c =
    let s = (goal.at.returns-clause-code_value c).Start in
    let kept : 0 ≡ first_broken (rules_of_index s)
    = passes Index 17 _ _ c.require.ensures c.branch-require.ensures c.in_ok-require.is (ap (leb s.args.next) c.part_total.ensures) refl in
    after_weights s c.in_ok-check_plan.ensures (rw c.scratch_words-words.ensures at c.in_ok-check_lent.ensures)
    c.in_ok-check_map_values.ensures.code_value c.in_ok-check_weights.ensures kept
