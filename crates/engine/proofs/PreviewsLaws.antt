-- A preview and the call it tries: they answer the same, and the count of values is that of the places of the output in the parts that the call
-- finishes. Over a list of previews and calls the counts add up to the values in the finished parts, and to M·h·w where the calls' budgets reach the
-- total. It rests on the laws of answers, of values in parts and of lists of calls.
use Rattle.std.specs.Prelude.{◌≡◌, refl, List, [], ◌∷◌, ℕ, ◌+◌, ◌≤◌, min, ℤ, length}
use Rattle.std.proofs.Common.{sym, ap, ◌∙◌, arith}
use Rattle.algebra.specs.Counted.{counted}
use Rattle.base.specs.Rules.{outcome}
use Rattle.layer.specs.declared.shape.Layer.{Layer}
use Rattle.layer.specs.Shape.{output_count}
use Rattle.checks.specs.Engine.{Engine, Lawful}
use Rattle.values.specs.Values.{in_parts, values_in}
use Rattle.values.specs.ValuesLaws.{values_places, values_none, values_then, values_all}
use Rattle.engine.specs.declared.job.Job.{Job}
use Rattle.engine.specs.declared.job.Progress.{Progress}
use Rattle.engine.specs.declared.preview.Preview.{Preview}
use Rattle.engine.specs.Call.{start_of, count_of, answer_of}
use Rattle.engine.specs.Calls.{Call, Chained, job_after, accepted_budgets, Reaches}
use Rattle.engine.specs.AnswerLaws.{by_answer, answer_layer, answer_order}
use Rattle.engine.proofs.CallsLaws.{call_callable, calls_job, calls_callable}
use Rattle.engine.specs.Preview.{values_of, preview_of}
use Rattle.engine.specs.Previews.{TriedCall, Step, tried, called, calls_of, values_told, JobSteps, job_calls}

-- ---- one call

-- the values of a call, accepted or refused, are those in the parts from its job's next up to that of its answer
pub values_moved : (engine : Engine) (job : Job) (budget : ℕ) (map kernel : List ℤ) (output scratch : ℕ)
    → values_of engine job budget map kernel output scratch
    ≡ values_in engine job.layer job.next (answer_of engine job budget map kernel output scratch).job.next
values_moved engine job budget map kernel output scratch =
    by_answer engine job budget map kernel output scratch
    (λ code p. outcome code (values_in engine job.layer job.next (job.next + count_of engine job budget)) 0 ≡ values_in engine job.layer job.next p.job.next)
    refl (λ code. sym (values_none engine job.layer job.next))

module _ {engine : Engine} (call : Call engine) where
  -- of the call's answer
  moved_layer : call.progress.job.layer ≡ call.job.layer
  moved_layer = rw call.promise.answers (answer_layer engine call.job call.budget call.map call.kernel _ _)

  moved_order : call.job.next ≤ call.progress.job.next
  moved_order = rw call.promise.answers (answer_order engine call.job call.budget call.map call.kernel _ _)

  abbrev stored : ℕ
  stored = values_in engine call.job.layer call.job.next call.progress.job.next

  -- where it is accepted, the values are the places of the output buffer at which it stores a direct sum
  pub stored_places : Lawful engine → call.progress.code ≡ 0
      → stored ≡ counted (length call.output) (in_parts engine call.job.layer call.job.next call.progress.job.next)
  stored_places lawful e = values_places engine call.job.layer (length call.output) _ _ (call_callable call lawful e).output_length

-- a preview answers what the call answers, and the values that it stores
module _ {engine : Engine} (step : TriedCall engine) where
  abbrev call : Call engine
  call = step.call

  told : step.trial.preview ≡ preview_of engine call.job call.budget call.map call.kernel (length call.output) (length call.scratch)
  told =
      rw (step.same_job, step.same_budget, step.same_map, step.same_kernel, step.same_output, step.same_scratch) at step.trial.promise

  pub tried_progress : step.trial.preview.progress ≡ call.progress
  tried_progress = ap (λ (p : Preview). p.progress) told ∙ sym call.promise.answers

  pub tried_values : step.trial.preview.values ≡ values_in engine call.job.layer call.job.next call.progress.job.next
  tried_values =
      ap (λ (p : Preview). p.values) told
      ∙ values_moved engine call.job call.budget call.map call.kernel _ _
      ∙ ap (λ (p : Progress). values_in engine call.job.layer call.job.next p.job.next) (sym call.promise.answers)

-- ---- a list of previews and calls

module _ {engine : Engine} where
  -- from a job on, the counts add up to the values in the parts from its next on
  record Added (job : Job) (steps : List (Step engine)) : Type 0 where
    order : job.next ≤ (job_after job (calls_of steps)).next
    values : values_told steps ≡ values_in engine job.layer job.next (job_after job (calls_of steps)).next

  added : (map kernel : List ℤ) (job : Job) (output : List ℤ) (steps : List (Step engine)) → Chained map kernel job output (calls_of steps) → Added job steps
  added map kernel job output [] chained = record { order = omega arith; values = sym (values_none engine job.layer job.next) }
  added map kernel job output (tried trial ∷ steps) chained =
      let rest = added map kernel job output steps chained in
      record { order = rest.order; values = rest.values }
  added map kernel job output (called step ∷ steps) (same_job, same_output, lent, chained) =
      let call = step.call in
      let rest = added map kernel call.progress.job call.left_output steps chained in
      let to = (job_after call.progress.job (calls_of steps)).next in
      let low : job.next ≤ call.progress.job.next = rw same_job at (moved_order call) in
      let here = tried_values step ∙ ap (λ (j : Job). values_in engine j.layer j.next call.progress.job.next) same_job in
      let later = rest.values ∙ ap (λ (l : Layer). values_in engine l call.progress.job.next to) (moved_layer call ∙ ap (λ (j : Job). j.layer) same_job) in
      record {
        order = omega (arith, low, rest.order);
        values = omega (arith, here, later, values_then engine job.layer job.next call.progress.job.next to low rest.order);
      }

module _ {engine : Engine} {l : Layer} {map kernel : List ℤ} (list : JobSteps engine l map kernel) where
  -- at every stop: the values told are those in the parts finished so far
  pub told_so_far : values_told list.steps ≡ values_in engine l 0 (min (engine.total l) (accepted_budgets (calls_of list.steps)))
  told_so_far =
      (added map kernel (start_of l) list.first list.steps list.chained).values
      ∙ ap (λ (job : Job). values_in engine l 0 job.next) (calls_job (job_calls list))

  -- budgets that reach the total: they are all M·h·w values
  pub told_in_all : Lawful engine → Reaches (job_calls list) → values_told list.steps ≡ output_count l
  told_in_all lawful reaches =
      let all : min (engine.total l) (accepted_budgets (calls_of list.steps)) ≡ engine.total l = omega (arith, reaches.enough) in
      told_so_far ∙ ap (values_in engine l 0) all
      ∙ values_all engine l lawful (calls_callable (job_calls list) lawful reaches.some).callable.plan
