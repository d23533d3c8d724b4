-- 02, E9: what a preview of a call answers, in any engine, for every job, budget, length and value: what the call would answer, and how many output
-- values it would store.
use Rattle.std.specs.Prelude.{List, ℕ, ◌+◌, ℤ}
use Rattle.base.specs.Rules.{outcome}
use Rattle.checks.specs.Engine.{Engine}
use Rattle.values.specs.Values.{values_in}
use Rattle.engine.specs.declared.job.Job.{Job}
use Rattle.engine.specs.declared.preview.Preview.{Preview}
use Rattle.engine.specs.Call.{count_of, call_code, answer_of}

module _ (engine : Engine) where
  -- the values that a call stores: those in the parts that it finishes, none where it is refused
  abbrev pub values_of : Job → (budget : ℕ) → (map kernel : List ℤ) → (output scratch : ℕ) → ℕ
  values_of job budget map kernel output scratch =
      outcome (call_code engine job map kernel output scratch) (values_in engine job.layer job.next (job.next + count_of engine job budget)) 0

  abbrev pub preview_of : Job → (budget : ℕ) → (map kernel : List ℤ) → (output scratch : ℕ) → Preview
  preview_of job budget map kernel output scratch =
      record { progress = answer_of engine job budget map kernel output scratch; values = values_of job budget map kernel output scratch }
