-- What a call answers, by its code: one case for accepted and one for refused calls, from which follow its number and place, its job, and the whole answer
-- in each case. It rests on the laws of outcomes.
use Rattle.std.specs.Prelude.{◌≡◌, refl, List, ℕ, zero, suc, ◌≤◌, ℤ}
use Rattle.std.proofs.Common.{sym, arith}
use Rattle.base.specs.Rules.{outcome}
use Rattle.base.specs.RulesLaws.{outcome_made, outcome_lent}
use Rattle.checks.specs.Engine.{Engine}
use Rattle.checks.specs.Checks.{offender_with}
use Rattle.checks.specs.OffenderLaws.{accepted_place}
use Rattle.engine.specs.declared.job.Job.{Job}
use Rattle.engine.specs.declared.job.Progress.{Progress}
use Rattle.engine.specs.Call.{count_of, accepted, refused, call_code, answer_of}

module _ (engine : Engine) (job : Job) (budget : ℕ) (map kernel : List ℤ) (output scratch : ℕ) where
  -- what holds of the answer of an accepted call with 0, and of that of a refused one with each other code, holds of the answer with its code
  pub by_answer : (P : ℕ → Progress → Type 0) → P 0 (accepted engine job (count_of engine job budget))
      → ((code : ℕ) → P (suc code) (refused job (suc code) (offender_with (suc code) job.layer map)))
      → P (call_code engine job map kernel output scratch) (answer_of engine job budget map kernel output scratch)
  by_answer P made kept = go (call_code engine job map kernel output scratch)
    where
      go : (code : ℕ) → P code (outcome code (accepted engine job (count_of engine job budget)) (refused job code (offender_with code job.layer map)))
      go zero = made
      go (suc code) = kept code

  -- the number is what the checks answer
  pub answer_code : (answer_of engine job budget map kernel output scratch).code ≡ call_code engine job map kernel output scratch
  answer_code = by_answer (λ code p. p.code ≡ code) refl (λ code. refl)

  -- the place and the side are those that stand with it: zeros with any but 15 and 25
  pub answer_place : (answer_of engine job budget map kernel output scratch).offender
      ≡ offender_with (call_code engine job map kernel output scratch) job.layer map
  answer_place = by_answer (λ code p. p.offender ≡ offender_with code job.layer map) (sym (accepted_place job.layer map refl)) (λ code. refl)

  -- the job keeps its layer and moves on, or stays
  pub answer_layer : (answer_of engine job budget map kernel output scratch).job.layer ≡ job.layer
  answer_layer = by_answer (λ code p. p.job.layer ≡ job.layer) refl (λ code. refl)

  pub answer_order : job.next ≤ (answer_of engine job budget map kernel output scratch).job.next
  answer_order = by_answer (λ code p. job.next ≤ p.job.next) (omega arith) (λ code. omega arith)

  pub answer_accepted : call_code engine job map kernel output scratch ≡ 0
      → answer_of engine job budget map kernel output scratch ≡ accepted engine job (count_of engine job budget)
  answer_accepted = outcome_made _ _

  pub answer_refused : (call_code engine job map kernel output scratch ≡ 0 → ⊥)
      → answer_of engine job budget map kernel output scratch
      ≡ refused job (call_code engine job map kernel output scratch) (offender_with (call_code engine job map kernel output scratch) job.layer map)
  answer_refused = outcome_lent _ _ (call_code engine job map kernel output scratch)
