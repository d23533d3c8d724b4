-- What a run and what levels leave at the front of the buffer that is lent to them. It rests on the laws of whole runs.
use mathlib.Core.Path.{◌≡◌, ap, ◌∙◌}
use mathlib.Core.List.{List, ◌++◌}
use Prim.Native.Nat.{ℕ}
use native.Mathlib.Omega.{arith}
use lib.IntN.{ℤ}
use lib.ListN.{length, take, drop, length-map}
use lib.Seq.{length-take-le, take_at}
use Rattle.algebra.specs.PlacesLaws.{length-table}
use Rattle.base.specs.RulesLaws.{outcome_made}
use Rattle.layer.specs.declared.shape.Layer.{Layer}
use Rattle.layer.specs.Shape.{map_count, output_count, tile_total}
use Rattle.checks.specs.Engine.{tile_engine}
use Rattle.checks.specs.EngineLaws.{tile_lawful}
use Rattle.checks.specs.Checks.{run_code}
use Rattle.checks.specs.ChecksLaws.{run_code_lem}
use Rattle.levels.specs.Answer.{levels_code, levels_of, levels_left}
use Rattle.engine.specs.declared.job.Progress.{Progress}
use Rattle.engine.specs.Call.{start_of, Called}
use Rattle.engine.specs.AnswerLaws.{answer_code}
use Rattle.engine.proofs.RunLaws.{run_frame}
use Rattle.steps.specs.declared.step.Step.{Step}
use Rattle.steps.specs.Steps.{kernel_at}
use Rattle.sequence.specs.Sequence.{sums_of}
use Rattle.sequence.specs.Ready.{RunReady, LevelsReady}
use Rattle.sequence.specs.ReadyLaws.{run_accepted}

-- a run that is accepted leaves the direct sums
run_left : {l : Layer} {map kernel output : List ℤ} {scratch : List ℕ} {progress : Progress} {left : List ℤ} {left_scratch : List ℕ}
    → Called tile_engine (start_of l) (tile_total l) map kernel output scratch progress left left_scratch
    → length output ≡ output_count l → run_code tile_engine l map kernel (output_count l) (length scratch) ≡ 0 → left ≡ sums_of l map kernel
run_left {l} {map} {kernel} {output} {scratch} {progress} called size passed =
    let asked : run_code tile_engine l map kernel (length output) (length scratch) ≡ 0 = rw size passed in
    let code : progress.code ≡ 0
    = ap (λ (p : Progress). p.code) called.answers
    ∙ answer_code tile_engine (start_of l) (tile_total l) map kernel (length output) (length scratch)
    ∙ run_code_lem tile_engine l map kernel (length output) (length scratch) ∙ asked in
    rw size at (run_frame called tile_lawful code)

-- the run of step k, by the code's names of the step, its counts and its kernel
pub sums_left : {steps : ℕ → Step} {k : ℕ} {map kernels kernel left : List ℤ} (output : List ℤ) {scratch left_scratch : List ℕ} {progress : Progress}
    {step : Step} {values outputs : ℕ}
    → step ≡ steps k → values ≡ map_count step.layer → outputs ≡ output_count step.layer → kernel ≡ kernel_at steps kernels k
    → RunReady steps k map kernels (length output) (length scratch)
    → Called tile_engine (start_of step.layer) (tile_total step.layer) (take values map) kernel (take outputs output) scratch progress left left_scratch
    → take (output_count (steps k).layer) (left ++ drop outputs output)
    ≡ sums_of (steps k).layer (take (map_count (steps k).layer) map) (kernel_at steps kernels k)
sums_left {steps} {k} {map} {kernels} {kernel} {left} output {scratch} is values-are outputs-are kernel_is ready called =
    let l = (steps k).layer in
    let own = rw (values-are, outputs-are, kernel_is, is) at called in
    let size : length (take (output_count l) output) ≡ output_count l = length-take-le (output_count l) output ready.output_room in
    let passed = run_accepted (ready.usable k (omega arith)) (take (map_count l) map) ready.taken (length scratch) ready.scratch_room in
    let sums = run_left own size passed in
    rw (outputs-are, is) (take_at left (drop (output_count l) output) (output_count l) (ap length sums ∙ length-table (output_count l) _) ∙ sums)

-- the levels of a step's outputs, by the code's names of the step and its count
pub levels_left_lem : {s step : Step} {n : ℕ} (output map : List ℤ) {left : List ℤ} → step ≡ s → n ≡ output_count step.layer
    → LevelsReady s (length output) (length map)
    → left ≡ levels_left step.shift step.bound (take n output) (take n map)
    → take (output_count s.layer) (left ++ drop n map) ≡ levels_of s.shift s.bound (take (output_count s.layer) output)
levels_left_lem {s} {step} {n} output map {left} is count_is ready e =
    let count = output_count s.layer in
    let own = rw (count_is, is) at e in
    let outputs : length (take count output) ≡ count = length-take-le count output ready.output_room in
    let places : length (take count map) ≡ count = length-take-le count map ready.map_room in
    let asked : levels_code s.shift s.bound (length (take count output)) (length (take count map)) ≡ 0 = rw (outputs, places) ready.passed in
    let made : left ≡ levels_of s.shift s.bound (take count output) = own ∙ outcome_made _ _ asked in
    rw (count_is, is) (take_at left (drop count map) count (ap length made ∙ length-map (take count output) _ ∙ outputs) ∙ made)
