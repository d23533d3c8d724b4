-- What is printed of a run, from what the run answers and leaves: the rule's number where it is refused, else the count and the output.
-- It rests on the laws of a whole run.
use mathlib.Core.Path.{◌≡◌, sym, ap, ◌∙◌}
use mathlib.Core.List.{List, ◌++◌}
use Prim.Native.Nat.{ℕ}
use native.Mathlib.Omega.{arith}
use lib.IntN.{ℤ}
use lib.ListN.{length}
use Rattle.algebra.specs.Places.{table}
use Rattle.algebra.specs.PlacesLaws.{length-table}
use Rattle.base.specs.RulesLaws.{outcome_lent}
use Rattle.layer.specs.declared.shape.Layer.{Layer}
use Rattle.layer.specs.Shape.{output_count, tile_total}
use Rattle.layer.specs.Direct.{direct_at}
use Rattle.checks.specs.Engine.{tile_engine}
use Rattle.checks.specs.Checks.{run_code, job_code}
use Rattle.checks.specs.ChecksLaws.{run_code_lem}
use Rattle.checks.specs.EngineLaws.{tile_lawful}
use Rattle.engine.specs.declared.job.Progress.{Progress}
use Rattle.engine.specs.Call.{start_of, Called}
use Rattle.engine.proofs.CallsLaws.{called_code}
use Rattle.engine.proofs.RunLaws.{run_frame}
use Rattle.lines.specs.Lines.{tiles_word, refused_word, numbered, rows_text}
use Rattle.bench_text.specs.Printed.{ran}

module _ {l : Layer} {map kernel output : List ℤ} {scratch : List ℕ} {progress : Progress} {left_output : List ℤ} {left_scratch : List ℕ}
    (called : Called tile_engine (start_of l) (tile_total l) map kernel output scratch progress left_output left_scratch)
  where
    -- the code of the checks
    abbrev checked : ℕ
    checked = job_code tile_engine l 0 map kernel (length output) (length scratch)

    code_is : progress.code ≡ checked
    code_is = called_code called

    count_is : progress.code ≡ 0 → progress.count ≡ tile_total l
    count_is e =
        let passed : checked ≡ 0 = sym code_is ∙ e in
        ap (λ (p : Progress). p.count) (rw passed at called.answers) ∙ omega arith

    module _ (outputs : length output ≡ output_count l) (words : length scratch ≡ 3072) where
      run_code_is : progress.code ≡ run_code tile_engine l map kernel (output_count l) 3072
      run_code_is = rw (outputs, words, run_code_lem tile_engine l map kernel (output_count l) 3072) at code_is

      pub run_refused : (progress.code ≡ 0 → ⊥) → ran l map kernel ≡ numbered refused_word progress.code
      unfolding ran
      run_refused broken = rw (← run_code_is) (outcome_lent _ _ progress.code broken)

      pub run_accepted : progress.code ≡ 0
          → ran l map kernel ≡ numbered tiles_word progress.count ++ rows_text l.columns (length left_output) left_output
      unfolding ran
      run_accepted e =
          let sums : left_output ≡ table (output_count l) (direct_at l map kernel) = rw outputs at (run_frame called tile_lawful e) in
          rw (← run_code_is, e, count_is e, sums, length-table (output_count l) (direct_at l map kernel))
