-- 28 stands behind the rules of the shapes.
use Rattle.std.specs.Prelude.{List, length}
use Rattle.std.proofs.Common.{sym, refl}
use Rattle.base.specs.Rules.{Rule}
use Rattle.base.specs.RefusalsLaws.{handed_on, first_refuses, second_decides, answers}
use Rattle.base.specs.declared.rules.Refusal.TheVariants.{JoinedWeight}
use Rattle.join.specs.Answer.{shape_rules, weight_rules, join_code}
use Rattle.join.specs.AnswerLaws.{joinable}
use Rattle.join.proofs.checks.check_join.Goals as goal
use Rattle.join.proofs.checks.check_join.Goals.{Start}

abbrev shape-rules : Start → List Rule
shape-rules s = let a = s.args in shape_rules a.first (length a.first_kernel.now) a.second (length a.second_kernel.now) a.room

abbrev weight-rules : Start → List Rule
weight-rules s = let a = s.args in weight_rules a.first a.first_kernel.now a.second a.second_kernel.now

pub returns-in_err-check_shape : goal.returns-in_err-check_shape
unfolding join_code
returns-in_err-check_shape c =
    let s = (goal.at.returns-in_err-check_shape c).Start in
    handed_on _ _ c.from_residual.ensures (first_refuses (shape-rules s) (weight-rules s) _ c.in_err-check_shape.ensures)

pub invariant_of-filters : goal.invariant_of-filters
invariant_of-filters c =
    let a = c.args in
    record { joinable = (joinable a.first (length a.first_kernel.now) a.second (length a.second_kernel.now) a.room (sym c.in_ok-check_shape.ensures)).0 }

pub weights_fit-requires : goal.weights_fit-requires
weights_fit-requires c =
    let a = c.args in
    (joinable a.first (length a.first_kernel.now) a.second (length a.second_kernel.now) a.room (sym c.in_ok-check_shape.ensures)).1

pub returns : goal.returns
unfolding join_code
returns c =
    let s = (goal.at.returns c).Start in
    second_decides (shape-rules s) (weight-rules s) tt c.in_ok-check_shape.ensures (answers JoinedWeight 28 c.require.ensures c.weights_fit.ensures refl)
