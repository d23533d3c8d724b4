-- What the C functions leave in `figures`, and what those that make a job's call, and a sequence's, promise.
use Rattle.std.specs.Prelude.{◌≡◌, cond, List, [], ◌∷◌, ◌++◌, ℕ, ℤ}
use Rattle.layer.specs.declared.shape.Plan.{Plan}
use Rattle.load.specs.declared.offender.Offender.{Offender}
use Rattle.checks.specs.declared.calls.Checked.{Checked}
use Rattle.checks.specs.Engine.{Engine}
use Rattle.engine.specs.declared.job.Job.{Job}
use Rattle.engine.specs.declared.job.Progress.{Progress}
use Rattle.engine.specs.declared.preview.Preview.{Preview}
use Rattle.engine.specs.Call.{Called}
use Rattle.sequence.specs.Sequenced.{Sequenced}

-- E, F, the total of parts and the words of scratch
abbrev pub plan_figures : Plan → List ℕ
plan_figures plan = plan.height ∷ plan.width ∷ plan.parts ∷ plan.scratch ∷ []

-- the channel, row, column and side of a map value beyond the peak
abbrev pub offender_figures : Offender → List ℕ
offender_figures offender = offender.channel ∷ offender.row ∷ offender.column ∷ offender.side ∷ []

-- the count, the index of the next part, 1 where done, and the map value that 15 and 25 speak of
abbrev pub progress_figures : Progress → List ℕ
progress_figures progress = progress.count ∷ progress.job.next ∷ cond progress.done 1 0 ∷ offender_figures progress.offender

-- those of the call that is tried, then the values that it would store
abbrev pub preview_figures : Preview → List ℕ
preview_figures preview = progress_figures preview.progress ++ (preview.values ∷ [])

-- a call of a job whose answer comes as its code and seven figures
pub record Reported
    (engine : Engine) (job : Job) (budget : ℕ) (map kernel output : List ℤ) (scratch : List ℕ) (code : ℕ) (figures : List ℕ) (left_output : List ℤ) (left_scratch : List ℕ)
    : Type 0
  where
    pub progress : Progress
    pub called : Called engine job budget map kernel output scratch progress left_output left_scratch
    pub code_is : code ≡ progress.code
    pub figures_are : figures ≡ progress_figures progress

-- a sequence whose answer comes as its code and four figures
pub record SequenceReported
    (count : ℕ) (numbers : List ℕ) (map kernels first second output : List ℤ) (scratch : List ℕ) (final : List ℤ) (code : ℕ) (figures : List ℕ)
    (first-left second-left left_output : List ℤ) (left_scratch : List ℕ) (final-left : List ℤ) : Type 0
  where
    pub answer : Checked
    pub sequenced : Sequenced count numbers map kernels first second output scratch final answer first-left second-left left_output left_scratch final-left
    pub code_is : code ≡ answer.code
    pub figures_are : figures ≡ offender_figures answer.offender
