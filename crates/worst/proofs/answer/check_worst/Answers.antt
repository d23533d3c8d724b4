-- The rules are asked in three lists: the planner's, then 10, 11 and 14, then 24 and 29. Each list is asked where those before it are kept.
use mathlib.Core.Path.{sym}
use mathlib.Core.List.{List, ◌++◌}
use borrow.Author.Tests.{eqb-true}
use lib.ListN.{length}
use Rattle.base.specs.Rules.{Rule}
use Rattle.base.specs.RulesLaws.{none_broken, inside_high}
use Rattle.base.specs.RefusalsLaws.{handed_on, first_refuses, second_decides}
use Rattle.layer.specs.Planned.{Planned}
use Rattle.layer.specs.Shape.{kernel_count}
use Rattle.load.proofs.LoadLaws.{weighted}
use Rattle.checks.specs.Checks.{shape_rules, output_rules, plan_code}
use Rattle.checks.specs.ChecksLaws.{planned}
use Rattle.checks.specs.EngineLaws.{tile_lawful}
use Rattle.worst.specs.Answer.{length_rules, shown_rules, worst_code}
use Rattle.worst.proofs.answer.check_worst.Goals as goal
use Rattle.worst.proofs.answer.check_worst.Goals.{In_ok-check_plan, Start}

module _ (s : Start) where
  abbrev rules_of_plan : List Rule
  rules_of_plan = shape_rules 5 s.args.layer ++ output_rules s.args.layer

  abbrev rules_of_lengths : List Rule
  rules_of_lengths = length_rules s.args.layer s.args.kernel.now s.args.room

  abbrev rules_of_shown : List Rule
  rules_of_shown = shown_rules s.args.layer s.args.kernel.now

plan : (c : In_ok-check_plan) → Planned c.args.layer
plan c = planned tile_lawful _ (sym c.in_ok-check_plan.ensures)

pub returns-in_err-check_plan : goal.returns-in_err-check_plan
unfolding plan_code worst_code
returns-in_err-check_plan c =
    let s = (goal.at.returns-in_err-check_plan c).Start in
    handed_on _ _ c.from_residual.ensures (first_refuses (rules_of_plan s) (rules_of_lengths s ++ rules_of_shown s) _ c.in_err-check_plan.ensures)

pub check_lengths-requires : goal.check_lengths-requires
check_lengths-requires c = (plan c).shape

pub returns-in_err-check_lengths : goal.returns-in_err-check_lengths
unfolding plan_code worst_code
returns-in_err-check_lengths c =
    let s = (goal.at.returns-in_err-check_lengths c).Start in
    handed_on _ _ c.from_residual-in_err-check_lengths.ensures
    (second_decides (rules_of_plan s) (rules_of_lengths s ++ rules_of_shown s) tt c.in_ok-check_plan.ensures
    (first_refuses (rules_of_lengths s) (rules_of_shown s) _ c.in_err-check_lengths.ensures))

pub check_shown-requires : goal.check_shown-requires
check_shown-requires c =
    let at = goal.at.check_shown-requires c in
    let planned = plan at.In_ok-check_plan in
    let l = c.args.layer in
    let hold = none_broken (rules_of_lengths at.Start) tt (sym c.in_ok-check_lengths.ensures) in (
      planned,
      weighted l c.args.kernel.now planned.shape (inside_high 1 32767 l.peak search)
          (eqb-true (length c.args.kernel.now) (kernel_count l) search),
    )

pub returns : goal.returns
unfolding plan_code worst_code
returns c =
    let s = (goal.at.returns c).Start in
    second_decides (rules_of_plan s) (rules_of_lengths s ++ rules_of_shown s) tt c.in_ok-check_plan.ensures
    (second_decides (rules_of_lengths s) (rules_of_shown s) tt c.in_ok-check_lengths.ensures c.check_shown.ensures)
