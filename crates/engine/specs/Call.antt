-- 01, "A job", and 02, E11: what one call comes to, in any engine, for every job, budget, length and value. A refused call leaves everything as it
-- was lent.
use Rattle.std.specs.Prelude.{◌≡◌, false, cond, List, ℕ, ◌+◌, ◌-◌, min, ltb, eqb, ℤ, pos, length, get_or}
use Rattle.algebra.specs.Places.{table}
use Rattle.base.specs.Rules.{outcome}
use Rattle.layer.specs.declared.shape.Layer.{Layer}
use Rattle.layer.specs.Direct.{direct_at}
use Rattle.load.specs.declared.offender.Offender.{Offender}
use Rattle.load.specs.Offender.{no_offender}
use Rattle.checks.specs.Engine.{Engine}
use Rattle.checks.specs.Checks.{run_code, job_code, offender_with}
use Rattle.values.specs.Values.{in_parts}
use Rattle.engine.specs.declared.job.Job.{Job}
use Rattle.engine.specs.declared.job.Progress.{Progress}

-- the layer's job at part 0
abbrev pub start_of : Layer → Job
start_of l = record { layer = l; next = 0 }

-- what a refused call answers: the job as given
abbrev pub refused : Job → (code : ℕ) → (offender : Offender) → Progress
refused job code offender = record { code = code; count = 0; job = job; done = false; offender = offender }

-- scratch with the first `count` words 0, later ones as lent
unfoldable pub cleared : (count : ℕ) → List ℕ → List ℕ
cleared count words = table (length words) (λ i. cond (ltb i count) 0 (get_or words i 0))

module _ (engine : Engine) where
  -- ---- the answer

  -- the parts that an accepted call finishes: the lesser of the budget and the parts left
  abbrev pub count_of : Job → (budget : ℕ) → ℕ
  count_of job budget = min budget (engine.total job.layer - job.next)

  -- what an accepted call answers: done exactly when the index handed back equals the total
  abbrev pub accepted : Job → (count : ℕ) → Progress
  accepted job count = record {
    code = 0;
    count = count;
    job = record { layer = job.layer; next = job.next + count };
    done = eqb (job.next + count) (engine.total job.layer);
    offender = no_offender;
  }

  -- the number of the first check broken, or 0. The checks read the map and the kernel, and the lengths of output and scratch
  abbrev pub call_code : Job → (map kernel : List ℤ) → (output scratch : ℕ) → ℕ
  call_code job map kernel output scratch = job_code engine job.layer job.next map kernel output scratch

  -- what a call of the job with that budget answers; with 15 and 25 the first map value beyond the peak, zeros with any other number
  abbrev pub answer_of : Job → (budget : ℕ) → (map kernel : List ℤ) → (output scratch : ℕ) → Progress
  answer_of job budget map kernel output scratch =
      let code = call_code job map kernel output scratch in
      outcome code (accepted job (count_of job budget)) (refused job code (offender_with code job.layer map))

  -- ---- the output

  -- the output once the parts from `from` up to `to` are finished: at their places the direct sums, elsewhere what was lent
  unfoldable pub finished : Layer → (map kernel : List ℤ) → (from to : ℕ) → List ℤ → List ℤ
  finished l map kernel from to output =
      table (length output)
      (λ p. cond (in_parts engine l from to p) (direct_at l map kernel p) (get_or output p (pos 0)))

  -- ---- the call

  -- a call of the job with that budget, lent a map, a kernel, an output and scratch, answers `progress` and leaves the last two
  pub record Called
      (job : Job) (budget : ℕ) (map kernel output : List ℤ) (scratch : List ℕ) (progress : Progress) (left_output : List ℤ) (left_scratch : List ℕ)
      : Type 0
    where
      pub answers : progress ≡ answer_of job budget map kernel (length output) (length scratch)
      pub writes : left_output ≡ outcome (call_code job map kernel (length output) (length scratch))
          (finished job.layer map kernel job.next (job.next + count_of job budget) output) output
      pub clears : left_scratch ≡ outcome (call_code job map kernel (length output) (length scratch))
          (cleared (engine.words job.layer) scratch) scratch

  -- ---- a whole run: the job from part 0 with the total as its budget

  -- what it leaves in the output and in scratch
  abbrev pub output_left : Layer → (map kernel output : List ℤ) → (scratch : ℕ) → List ℤ
  output_left l map kernel output scratch =
      outcome (run_code engine l map kernel (length output) scratch) (finished l map kernel 0 (engine.total l) output) output

  abbrev pub scratch_left : Layer → (map kernel : List ℤ) → (output : ℕ) → (scratch : List ℕ) → List ℕ
  scratch_left l map kernel output scratch =
      outcome (run_code engine l map kernel output (length scratch)) (cleared (engine.words l) scratch) scratch
