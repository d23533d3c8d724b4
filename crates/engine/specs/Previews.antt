-- 02, E9: a list of previews and calls of one layer's job, all of one engine. A preview writes nowhere, so the calls follow one another as if it were
-- not there. Each call was previewed with what it takes, or with copies.
use Rattle.std.specs.Prelude.{◌≡◌, List, [], ◌∷◌, ℕ, ◌+◌, ℤ, length}
use Rattle.layer.specs.declared.shape.Layer.{Layer}
use Rattle.checks.specs.Engine.{Engine}
use Rattle.engine.specs.declared.job.Job.{Job}
use Rattle.engine.specs.declared.preview.Preview.{Preview}
use Rattle.engine.specs.Call.{start_of}
use Rattle.engine.specs.Calls.{Call, Chained, JobCalls}
use Rattle.engine.specs.Preview.{preview_of}

-- a preview that was made: what it took and answered, and what its contract promises
pub record Tried (engine : Engine) : Type 0 where
  pub job : Job
  pub budget : ℕ
  pub map : List ℤ
  pub kernel : List ℤ
  pub output : List ℤ
  pub scratch : List ℕ
  pub preview : Preview
  pub promise : preview ≡ preview_of engine job budget map kernel (length output) (length scratch)

-- a call that was made, and its preview
pub record TriedCall (engine : Engine) : Type 0 where
  pub trial : Tried engine
  pub call : Call engine
  pub same_job : trial.job ≡ call.job
  pub same_budget : trial.budget ≡ call.budget
  pub same_map : trial.map ≡ call.map
  pub same_kernel : trial.kernel ≡ call.kernel
  pub same_output : trial.output ≡ call.output
  pub same_scratch : trial.scratch ≡ call.scratch

-- a preview of any job with any budget, or a call after its preview
pub data Step (engine : Engine) : Type 0 where
  tried : Tried engine → Step engine
  called : TriedCall engine → Step engine

module _ {engine : Engine} where
  -- the calls of a list
  abbrev pub calls_of : List (Step engine) → List (Call engine)
  calls_of [] = []
  calls_of (tried trial ∷ steps) = calls_of steps
  calls_of (called step ∷ steps) = step.call ∷ calls_of steps

  -- the sum of the counts of values that the previews of its calls answered
  abbrev pub values_told : List (Step engine) → ℕ
  values_told [] = 0
  values_told (tried trial ∷ steps) = values_told steps
  values_told (called step ∷ steps) = step.trial.preview.values + values_told steps

-- a list whose calls start from the layer's job at part 0 and a buffer that holds anything
pub record JobSteps (engine : Engine) (l : Layer) (map kernel : List ℤ) : Type 0 where
  pub first : List ℤ
  pub steps : List (Step engine)
  pub chained : Chained map kernel (start_of l) first (calls_of steps)

abbrev pub job_calls : {engine : Engine} {l : Layer} {map kernel : List ℤ} → JobSteps engine l map kernel → JobCalls engine l map kernel
job_calls list = record { first = list.first; calls = calls_of list.steps; chained = list.chained }
