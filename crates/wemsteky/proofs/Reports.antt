-- A call's answer as its code and seven figures, and its preview's as eight. The layer or the job is that of the numbers given.
use mathlib.Core.Path.{◌≡◌, ap, ◌∙◌}
use mathlib.Core.List.{List}
use Prim.Native.Nat.{ℕ}
use lib.IntN.{ℤ}
use Rattle.checks.specs.Engine.{Engine}
use Rattle.engine.specs.declared.job.Job.{Job}
use Rattle.engine.specs.declared.job.Progress.{Progress}
use Rattle.engine.specs.declared.preview.Preview.{Preview}
use Rattle.engine.specs.Call.{Called}
use Rattle.wemsteky.specs.Figures.{progress_figures, preview_figures, Reported}

pub reported : {engine : Engine} {A : Type 0} (job : A → Job) (budget : A → ℕ) {given l : A} → l ≡ given
    → {map kernel output : List ℤ} {scratch : List ℕ} {progress : Progress} {left_output : List ℤ} {left_scratch : List ℕ}
    → Called engine (job l) (budget l) map kernel output scratch progress left_output left_scratch
    → {code : ℕ} {figures : List ℕ} → code ≡ progress.code → figures ≡ progress_figures progress
    → Reported engine (job given) (budget given) map kernel output scratch code figures left_output left_scratch
reported job budget same {progress = progress} called e f = record { progress = progress; called = rw same at called; code_is = e; figures_are = f }

-- a preview's answer as the call's code and eight figures
pub previewed : (answer : Job → Preview) {given job : Job} → job ≡ given → {preview : Preview} → preview ≡ answer job
    → {code : ℕ} {figures : List ℕ} → code ≡ preview.progress.code → figures ≡ preview_figures preview
    → (code ≡ (answer given).progress.code) × (figures ≡ preview_figures (answer given))
previewed answer same is e f =
    (e ∙ ap (λ (p : Preview). p.progress.code) (is ∙ ap answer same), f ∙ ap preview_figures (is ∙ ap answer same))
