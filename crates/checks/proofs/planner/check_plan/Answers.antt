-- The rules 1 to 4 are asked first, then 5 to 7 and 23, then 8 and 9.
use mathlib.Core.Path.{sym}
use mathlib.Core.List.{List, ◌++◌}
use Prim.Native.Nat.{ℕ}
use Rattle.base.specs.Rules.{Rule}
use Rattle.base.specs.RefusalsLaws.{handed_on, first_refuses, second_decides}
use Rattle.checks.specs.Checks.{map_rules, kernel_rules, output_rules, plan_code}
use Rattle.checks.specs.Engine.{engine_of}
use Rattle.checks.specs.EngineLaws.{lawful}
use Rattle.checks.specs.ChecksLaws.{in_range}
use Rattle.checks.proofs.planner.check_plan.Goals as goal
use Rattle.checks.proofs.planner.check_plan.Goals.{Start, In_ok-check_map_size, In_ok-check_kernel}

-- the rules in three lists
module _ (s : Start) where
  abbrev last : ℕ
  last = (engine_of s.args.method).last_field

  abbrev rules_of_map : List Rule
  rules_of_map = map_rules last s.args.layer

  abbrev rules_of_kernel : List Rule
  rules_of_kernel = kernel_rules s.args.layer

  abbrev rules_of_output : List Rule
  rules_of_output = output_rules s.args.layer

pub returns-in_err-check_map_size : goal.returns-in_err-check_map_size
unfolding plan_code
returns-in_err-check_map_size c =
    let s = (goal.at.returns-in_err-check_map_size c).Start in
    handed_on _ _ c.from_residual.ensures
    (first_refuses (rules_of_map s) (rules_of_kernel s ++ rules_of_output s) _ (rw c.last_field.ensures at c.in_err-check_map_size.ensures))

pub returns-in_err-check_kernel : goal.returns-in_err-check_kernel
unfolding plan_code
returns-in_err-check_kernel c =
    let s = (goal.at.returns-in_err-check_kernel c).Start in
    handed_on _ _ c.from_residual-in_err-check_kernel.ensures
    (second_decides (rules_of_map s) (rules_of_kernel s ++ rules_of_output s) tt (rw c.last_field.ensures at c.in_ok-check_map_size.ensures)
    (first_refuses (rules_of_kernel s) (rules_of_output s) _ c.in_err-check_kernel.ensures))

pub check_output-requires : goal.check_output-requires
check_output-requires c =
    let s = (goal.at.check_output-requires c).Start in
    in_range (last s) (lawful s.args.method).known _
    (sym (second_decides (rules_of_map s) (rules_of_kernel s) tt (rw c.last_field.ensures at c.in_ok-check_map_size.ensures) c.in_ok-check_kernel.ensures))

pub returns : goal.returns
unfolding plan_code
returns c =
    let s = (goal.at.returns c).Start in
    second_decides (rules_of_map s) (rules_of_kernel s ++ rules_of_output s) tt (rw c.last_field.ensures at c.in_ok-check_map_size.ensures)
    (second_decides (rules_of_kernel s) (rules_of_output s) tt c.in_ok-check_kernel.ensures c.check_output.ensures)
