-- The three lists of rules one after the other: a refusal is handed on, and the later lists decide where the earlier ones are kept.
use Rattle.std.specs.Prelude.{List, ◌++◌}
use Rattle.std.proofs.Common.{sym}
use Rattle.base.specs.Rules.{Rule}
use Rattle.base.specs.RefusalsLaws.{handed_on, first_refuses, second_decides}
use Rattle.join.specs.Answer.{filter_rules, pair_rules}
use Rattle.join.specs.AnswerLaws.{filter_kept}
use Rattle.join.proofs.checks.check_shape.Goals as goal
use Rattle.join.proofs.checks.check_shape.Goals.{Start}

abbrev first-rules : Start → List Rule
first-rules s = filter_rules s.args.first s.args.first_weights

abbrev second-rules : Start → List Rule
second-rules s = filter_rules s.args.second s.args.second_weights

abbrev pair-rules : Start → List Rule
pair-rules s = pair_rules s.args.first s.args.second s.args.room

pub returns-in_err-check_filter : goal.returns-in_err-check_filter
returns-in_err-check_filter c =
    let s = (goal.at.returns-in_err-check_filter c).Start in
    handed_on _ _ c.from_residual.ensures
    (first_refuses (first-rules s ++ second-rules s) (pair-rules s) _ (first_refuses (first-rules s) (second-rules s) _ c.in_err-check_filter.ensures))

pub returns-in_err-check_filter-2 : goal.returns-in_err-check_filter-2
returns-in_err-check_filter-2 c =
    let s = (goal.at.returns-in_err-check_filter-2 c).Start in
    handed_on _ _ c.from_residual-in_err-check_filter-2.ensures
    (first_refuses (first-rules s ++ second-rules s) (pair-rules s) _
    (second_decides (first-rules s) (second-rules s) tt c.in_ok-check_filter.ensures c.in_err-check_filter-2.ensures))

pub check_pair-requires : goal.check_pair-requires
check_pair-requires c =
    let first = filter_kept c.args.first c.args.first_weights (sym c.in_ok-check_filter.ensures) in
    let second = filter_kept c.args.second c.args.second_weights (sym c.in_ok-check_filter-2.ensures) in
    (first.inputs_high, second.outputs_high, first.filter.side_low, first.side_high, second.side_high)

pub returns : goal.returns
returns c =
    let s = (goal.at.returns c).Start in
    second_decides (first-rules s ++ second-rules s) (pair-rules s) tt
    (second_decides (first-rules s) (second-rules s) tt c.in_ok-check_filter.ensures c.in_ok-check_filter-2.ensures)
    c.check_pair.ensures
