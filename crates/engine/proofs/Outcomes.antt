-- What a call and its preview come to, by the code: refused where it is not 0, accepted where it is 0. A call that is refused is so with every
-- budget, and so is that of a layer whose plan is refused. It rests on the laws of answers.
use mathlib.Core.Path.{◌≡◌, refl, sym, ap, ap₂, ◌∙◌}
use mathlib.Core.List.{List}
use Prim.Native.Nat.{ℕ, zero, suc, ◌+◌, ◌≤◌}
use native.Mathlib.Omega.{arith}
use lib.IntN.{ℤ}
use lib.ListN.{length}
use Rattle.base.specs.RulesLaws.{outcome_made, outcome_lent}
use Rattle.layer.specs.declared.shape.Layer.{Layer}
use Rattle.load.specs.declared.offender.Offender.{Offender}
use Rattle.checks.specs.Engine.{Engine, Lawful}
use Rattle.checks.specs.Checks.{offender_with, plan_code, figures, plan_of}
use Rattle.checks.specs.Callable.{Callable}
use Rattle.checks.specs.ChecksLaws.{run_plans, job_runs, job_callable}
use Rattle.values.specs.Values.{values_in}
use Rattle.engine.specs.declared.job.Job.{Job}
use Rattle.engine.specs.declared.job.Progress.{Progress}
use Rattle.engine.specs.declared.preview.Preview.{Preview}
use Rattle.engine.specs.Call.{start_of, count_of, accepted, refused, finished, cleared, call_code, answer_of, Called}
use Rattle.engine.specs.Preview.{preview_of}
use Rattle.engine.specs.AnswerLaws.{answer_code, answer_accepted, answer_refused}

-- what is answered, by what the checks and the count found
module _ (engine : Engine) (job : Job) (budget : ℕ) (map kernel : List ℤ) (output scratch : ℕ) where
  pub refused_answer : (found : ℕ) {offender : Offender} → found ≡ call_code engine job map kernel output scratch → (found ≡ 0 → ⊥)
      → offender ≡ offender_with found job.layer map → refused job found offender ≡ answer_of engine job budget map kernel output scratch
  refused_answer found e broken place =
      ap (refused job found) place
      ∙ ap (λ (n : ℕ). refused job n (offender_with n job.layer map)) e
      ∙ sym (answer_refused engine job budget map kernel output scratch (λ z. broken (e ∙ z)))

  pub accepted_answer : (count : ℕ) → call_code engine job map kernel output scratch ≡ 0 → count ≡ count_of engine job budget
      → accepted engine job count ≡ answer_of engine job budget map kernel output scratch
  accepted_answer count kept is = ap (accepted engine job) is ∙ sym (answer_accepted engine job budget map kernel output scratch kept)

  -- what was answered tells the code, and the index of the next part where that is 0
  module _ {progress : Progress} (answers : progress ≡ answer_of engine job budget map kernel output scratch) where
    pub told_code : progress.code ≡ call_code engine job map kernel output scratch
    told_code = ap (λ (p : Progress). p.code) answers ∙ answer_code engine job budget map kernel output scratch

    pub told_next : progress.code ≡ 0 → progress.job.next ≡ job.next + count_of engine job budget
    told_next e =
        ap (λ (p : Progress). p.job.next) (answers ∙ answer_accepted engine job budget map kernel output scratch (sym told_code ∙ e))

    -- what was lent then, and the parts that the call goes through
    module _ (lawful : Lawful engine) (e : progress.code ≡ 0) where
      told : Callable engine job.layer map kernel output scratch × (job.next ≤ engine.total job.layer)
      told = job_callable engine job.layer map kernel output scratch lawful job.next (sym told_code ∙ e)

      pub told_callable : Callable engine job.layer map kernel output scratch
      told_callable = told.0

      pub told_order : (job.next ≤ progress.job.next) × (progress.job.next ≤ engine.total job.layer)
      told_order = (omega (arith, told_next e), omega (arith, told_next e, told.1))

    pub refused_preview : (progress.code ≡ 0 → ⊥)
        → ◌≡◌ {A = Preview} (record { progress = progress; values = 0 }) (preview_of engine job budget map kernel output scratch)
    refused_preview broken =
        ap₂ {C = Preview} (λ (p : Progress) (n : ℕ). record { progress = p; values = n }) answers
        (sym (outcome_lent _ 0 (call_code engine job map kernel output scratch) (λ z. broken (told_code ∙ z))))

    pub accepted_preview : {values : ℕ} → progress.code ≡ 0 → values ≡ values_in engine job.layer job.next progress.job.next
        → ◌≡◌ {A = Preview} (record { progress = progress; values = values }) (preview_of engine job budget map kernel output scratch)
    accepted_preview e counted =
        ap₂ {C = Preview} (λ (p : Progress) (n : ℕ). record { progress = p; values = n }) answers
        (counted ∙ ap (values_in engine job.layer job.next) (told_next e) ∙ sym (outcome_made _ _ (sym told_code ∙ e)))

module _ (engine : Engine) (job : Job) (budget : ℕ) (map kernel output : List ℤ) (scratch : List ℕ) where
  abbrev code : ℕ
  code = call_code engine job map kernel (length output) (length scratch)

  module _ {progress : Progress} (answers : progress ≡ answer_of engine job budget map kernel (length output) (length scratch)) where
    is_code : progress.code ≡ code
    is_code = told_code engine job budget map kernel (length output) (length scratch) answers

    pub refused_call : (progress.code ≡ 0 → ⊥) → Called engine job budget map kernel output scratch progress output scratch
    refused_call broken =
        let stopped : code ≡ 0 → ⊥ = λ z. broken (is_code ∙ z) in
        record { answers = answers; writes = sym (outcome_lent _ _ code stopped); clears = sym (outcome_lent _ _ code stopped) }

    pub accepted_call : {left_output : List ℤ} {left_scratch : List ℕ} → progress.code ≡ 0
        → left_output ≡ finished engine job.layer map kernel job.next progress.job.next output
        → left_scratch ≡ cleared (engine.words job.layer) scratch
        → Called engine job budget map kernel output scratch progress left_output left_scratch
    accepted_call e parts words =
        let kept : code ≡ 0 = sym is_code ∙ e in
        let to = told_next engine job budget map kernel (length output) (length scratch) answers e in
        record {
          answers = answers;
          writes = parts ∙ ap (λ (n : ℕ). finished engine job.layer map kernel job.next n output) to ∙ sym (outcome_made _ _ kept);
          clears = words ∙ sym (outcome_made _ _ kept);
        }

  pub refused_any_budget : {progress : Progress} {left_output : List ℤ} {left_scratch : List ℕ} (other : ℕ) → (code ≡ 0 → ⊥)
      → Called engine job other map kernel output scratch progress left_output left_scratch
      → Called engine job budget map kernel output scratch progress left_output left_scratch
  refused_any_budget other broken call = record {
    answers = call.answers ∙ outcome_lent _ _ code broken ∙ sym (outcome_lent _ _ code broken);
    writes = call.writes ∙ outcome_lent _ _ code broken ∙ sym (outcome_lent _ _ code broken);
    clears = call.clears;
  }

-- the plan's total as the budget: the total, or 0 where the plan and thus the call is refused
pub planned_budget : {progress : Progress} {left_output : List ℤ} {left_scratch : List ℕ}
    (engine : Engine) (l : Layer) (map kernel output : List ℤ) (scratch : List ℕ)
    → Called engine (start_of l) (plan_of engine l).parts map kernel output scratch progress left_output left_scratch
    → Called engine (start_of l) (engine.total l) map kernel output scratch progress left_output left_scratch
unfolding plan_of
planned_budget {progress} {left_output} {left_scratch} engine l map kernel output scratch = by_plan (plan_code engine l) refl
  where
    by_plan : (code : ℕ) → plan_code engine l ≡ code
        → Called engine (start_of l) (figures engine code l).parts map kernel output scratch progress left_output left_scratch
        → Called engine (start_of l) (engine.total l) map kernel output scratch progress left_output left_scratch
    by_plan zero e call = call
    by_plan (suc code) e call =
        refused_any_budget engine (start_of l) (engine.total l) map kernel output scratch 0
        (λ kept. omega (arith, e, run_plans engine l map kernel _ _ (job_runs engine l map kernel _ _ 0 kept).0)) call
