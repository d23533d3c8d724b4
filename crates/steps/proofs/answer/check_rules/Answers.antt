-- The rules are asked in three lists: those of the steps, of the lengths, and of the first map. Each list is asked where those before it are kept.
use mathlib.Core.Path.{◌≡◌, sym, ap, ap₂, ◌∙◌}
use mathlib.Core.List.{List, ◌++◌}
use Prim.Native.Nat.{ℕ}
use borrow.Author.Tests.{eqb-true}
use lib.IntN.{ℤ}
use lib.ListN.{length}
use Rattle.base.specs.Rules.{Rule, first_broken}
use Rattle.base.specs.RulesLaws.{none_broken}
use Rattle.base.specs.RefusalsLaws.{first_refuses, second_decides}
use Rattle.layer.specs.declared.shape.Layer.{Layer}
use Rattle.layer.specs.Shape.{map_count}
use Rattle.load.specs.declared.offender.Offender.{Offender}
use Rattle.checks.specs.declared.calls.Checked.{Checked}
use Rattle.checks.specs.Checks.{map_value_rules, offender_with}
use Rattle.checks.specs.FoundLaws.{found_code, found_place}
use Rattle.steps.specs.declared.step.Step.{Step}
use Rattle.steps.specs.Steps.{step_at}
use Rattle.steps.specs.Answer.{steps_rules, steps_code}
use Rattle.steps.specs.AnswerLaws.{steps_numbered, steps_placeless}
use Rattle.steps.specs.LinkedLaws.{linked, all_planned}
use Rattle.steps.specs.Lent.{room_rules, sequence_code}
use Rattle.steps.proofs.answer.check_rules.Goals as goal
use Rattle.steps.proofs.answer.check_rules.Goals.{Start}

-- an answer is known by its number and what stands with it
abbrev answered : ℕ → Offender → Checked
answered code offender = record { code = code; offender = offender }

checked_is : (l : Layer) (map : List ℤ) {r : Checked} {code : ℕ} → r.code ≡ code → r.offender ≡ offender_with r.code l map
    → r ≡ answered code (offender_with code l map)
checked_is l map e f =
    ap₂ answered e (f ∙ ap (λ (n : ℕ). offender_with n l map) e)

module _ (s : Start) where
  abbrev steps : ℕ → Step
  steps = step_at s.args.steps.now

  abbrev rules_of_steps : List Rule
  rules_of_steps = steps_rules s.args.count steps s.args.kernels.now

  abbrev rules_of_room : List Rule
  rules_of_room = room_rules s.args.count steps (length s.args.map.now) s.args.room

  abbrev rules_of_map : List Rule
  rules_of_map = map_value_rules (steps 0).layer s.args.map.now

  abbrev answer : ℕ
  answer = sequence_code s.args.count steps s.args.map.now s.args.kernels.now s.args.room

  -- where the steps are kept, the other rules decide
  after_steps : 0 ≡ steps_code s.args.count steps s.args.kernels.now → {code : ℕ} → code ≡ first_broken (rules_of_room ++ rules_of_map) → code ≡ answer
  unfolding steps_code sequence_code
  after_steps kept = second_decides rules_of_steps (rules_of_room ++ rules_of_map) (steps_numbered s.args.count steps s.args.kernels.now) kept

pub returns-in_err-check_steps : goal.returns-in_err-check_steps
unfolding steps_code sequence_code
returns-in_err-check_steps c =
    let s = (goal.at.returns-in_err-check_steps c).Start in
    let broken = c.in_err-check_steps.ensures in
    let placeless = steps_placeless c.args.count (steps s) c.args.kernels.now in
    checked_is (steps s 0).layer c.args.map.now
    (found_code _ _ c.from_residual.ensures (first_refuses (rules_of_steps s) (rules_of_room s ++ rules_of_map s) _ broken))
    (found_place _ _ (rules_of_steps s) placeless _ _ c.from_residual.ensures broken)

pub check_room-requires : goal.check_room-requires
check_room-requires c = all_planned (linked _ _ _ (sym c.in_ok-check_steps.ensures))

pub returns-in_err-check_room : goal.returns-in_err-check_room
returns-in_err-check_room c =
    let s = (goal.at.returns-in_err-check_room c).Start in
    let broken = c.in_err-check_room.ensures in
    let from = c.from_residual-in_err-check_room.ensures in
    checked_is (steps s 0).layer c.args.map.now
    (found_code _ _ from (after_steps s c.in_ok-check_steps.ensures (first_refuses (rules_of_room s) (rules_of_map s) _ broken)))
    (found_place _ _ (rules_of_room s) tt _ _ from broken)

pub check_map_values-requires : goal.check_map_values-requires
check_map_values-requires c =
    let s = (goal.at.check_map_values-requires c).Start in
    let hold = none_broken (rules_of_room s) tt (sym c.in_ok-check_room.ensures) in
    rw c.step_at.ensures (eqb-true (length c.args.map.now) (map_count (steps s 0).layer) search)

pub returns : goal.returns
returns c =
    let s = (goal.at.returns c).Start in
    let found = rw c.step_at.ensures at c.check_map_values.ensures in
    checked_is (steps s 0).layer c.args.map.now
    (after_steps s c.in_ok-check_steps.ensures (second_decides (rules_of_room s) (rules_of_map s) tt c.in_ok-check_room.ensures found.code_value))
    found.offender_value
