-- The answer decides: a refused call changes nothing; an accepted one grows the map, and sets the other buffers to 0.
use mathlib.Core.Path.{sym, ap, ◌∙◌}
use Prim.Native.Nat.{ℕ}
use lib.IntN.{pos}
use lib.ListN.{replicate}
use Rattle.base.specs.RulesLaws.{outcome_made, outcome_lent}
use Rattle.checks.specs.declared.calls.Checked.{Checked}
use Rattle.steps.specs.Steps.{step_at}
use Rattle.steps.specs.Runnable.{Runnable}
use Rattle.steps.specs.RunnableLaws.{runnable}
use Rattle.sequence.specs.Sequenced.{room_of}
use Rattle.sequence.proofs.sequence.Goals as goal
use Rattle.sequence.proofs.sequence.Goals.{Else-answer-ne0}

-- no rule is broken
module _ (c : Else-answer-ne0) where
  may_run : let a = c.args in
      Runnable a.count (step_at a.steps.now) a.map.now a.kernels.now
      (room_of a.first.now a.second.now a.output.now a.scratch.now a.last.now)
  may_run = runnable _ _ _ _ _ (ap (λ (r : Checked). r.code) (sym c.check_sequence-answer.ensures) ∙ c.if-answer-ne0.false)

pub returns-then-answer-ne0 : goal.returns-then-answer-ne0
returns-then-answer-ne0 c =
    let lent = c.if-answer-ne0.true in
    record {
      answers = c.check_sequence-answer.ensures;
      grows = sym (outcome_lent _ _ _ lent);
      clears_first = sym (outcome_lent _ _ _ lent);
      clears_second = sym (outcome_lent _ _ _ lent);
      clears_output = sym (outcome_lent _ _ _ lent);
      clears_scratch = sym (outcome_lent _ _ _ lent);
    }

pub grow-requires : goal.grow-requires
grow-requires c =
    let r = may_run (goal.at.grow-requires c).Else-answer-ne0 in
    record { linked = (r.link, r.first_map); roomy = r.roomy }

pub returns : goal.returns
returns c =
    let none = c.if-answer-ne0.false in
    let zero = c.clear_all.ensures in
    let kept = c.grow.auto in
    record {
      answers = c.check_sequence-answer.ensures;
      grows = c.grow.ensures ∙ sym (outcome_made _ _ none);
      clears_first = zero.first_after.0 ∙ ap (λ (n : ℕ). replicate n (pos 0)) kept.work ∙ sym (outcome_made _ _ none);
      clears_second = zero.first_after.1 ∙ sym (outcome_made _ _ none);
      clears_output = zero.output_after.0 ∙ ap (λ (n : ℕ). replicate n (pos 0)) kept.output ∙ sym (outcome_made _ _ none);
      clears_scratch = zero.output_after.1 ∙ ap (λ (n : ℕ). replicate n 0) kept.scratch ∙ sym (outcome_made _ _ none);
    }
