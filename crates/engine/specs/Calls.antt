-- 01, "The two product sums": a list of calls of one layer's job, all of one engine. Each call takes the job and the output buffer as the one
-- before left them; budget and scratch may differ from call to call; a refused call may have been lent any map and kernel.
use Rattle.std.specs.Prelude.{◌≡◌, List, [], ◌∷◌, ℕ, ◌+◌, ◌≤◌, ◌<◌, ℤ}
use Rattle.base.specs.Rules.{outcome}
use Rattle.layer.specs.declared.shape.Layer.{Layer}
use Rattle.checks.specs.Engine.{Engine}
use Rattle.engine.specs.declared.job.Job.{Job}
use Rattle.engine.specs.declared.job.Progress.{Progress}
use Rattle.engine.specs.Call.{Called, start_of}

-- a call that was made: what it took, what it answered and left, and what its contract promises of these
pub record Call (engine : Engine) : Type 0 where
  pub job : Job
  pub budget : ℕ
  pub map : List ℤ
  pub kernel : List ℤ
  pub output : List ℤ
  pub scratch : List ℕ
  pub progress : Progress
  pub left_output : List ℤ
  pub left_scratch : List ℕ
  pub promise : Called engine job budget map kernel output scratch progress left_output left_scratch

module _ {engine : Engine} where
  -- the calls follow one another from a job and a buffer on, and accepted ones are lent one map and kernel
  abbrev pub Chained : (map kernel : List ℤ) → Job → (output : List ℤ) → List (Call engine) → Type 0
  Chained map kernel job output [] = Unit {0}
  Chained map kernel job output (call ∷ calls) =
      (call.job ≡ job) × (call.output ≡ output)
      × (call.progress.code ≡ 0 → (call.map ≡ map) × (call.kernel ≡ kernel))
      × Chained map kernel call.progress.job call.left_output calls

  -- the job and the buffer after the calls
  abbrev pub job_after : Job → List (Call engine) → Job
  job_after job [] = job
  job_after job (call ∷ calls) = job_after call.progress.job calls

  abbrev pub output_after : List ℤ → List (Call engine) → List ℤ
  output_after output [] = output
  output_after output (call ∷ calls) = output_after call.left_output calls

  -- how many calls were accepted, and the sum of their budgets
  abbrev pub accepted_calls : List (Call engine) → ℕ
  accepted_calls [] = 0
  accepted_calls (call ∷ calls) = outcome call.progress.code 1 0 + accepted_calls calls

  abbrev pub accepted_budgets : List (Call engine) → ℕ
  accepted_budgets [] = 0
  accepted_budgets (call ∷ calls) = outcome call.progress.code call.budget 0 + accepted_budgets calls

-- a list that starts from the layer's job at part 0 and a buffer that holds anything
pub record JobCalls (engine : Engine) (l : Layer) (map kernel : List ℤ) : Type 0 where
  pub first : List ℤ
  pub calls : List (Call engine)
  pub chained : Chained map kernel (start_of l) first calls

module _ {engine : Engine} {l : Layer} {map kernel : List ℤ} where
  -- the values in the output buffer after the list
  abbrev pub output_of : JobCalls engine l map kernel → List ℤ
  output_of list = output_after list.first list.calls

  -- a call was accepted, and the budgets reach the total
  pub record Reaches (list : JobCalls engine l map kernel) : Type 0 where
    pub some : 0 < accepted_calls list.calls
    pub enough : engine.total l ≤ accepted_budgets list.calls
