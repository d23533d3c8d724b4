-- A whole run: it is a list of one call, an accepted one leaves the direct sums, and what any leaves. It rests on the laws of lists of calls.
use Rattle.std.specs.Prelude.{◌≡◌, refl, List, [], ◌∷◌, ℕ, ◌+◌, ◌-◌, min, ℤ, length}
use Rattle.std.proofs.Common.{arith}
use Rattle.algebra.specs.Places.{table}
use Rattle.layer.specs.declared.shape.Layer.{Layer}
use Rattle.layer.specs.Direct.{direct_at}
use Rattle.checks.specs.Engine.{Engine, Lawful}
use Rattle.checks.specs.ChecksLaws.{run_code_lem}
use Rattle.engine.specs.declared.job.Progress.{Progress}
use Rattle.engine.specs.Call.{start_of, Called, output_left, scratch_left}
use Rattle.engine.specs.Calls.{JobCalls, output_of, Reaches}
use Rattle.engine.proofs.CallsLaws.{reached}

module _ {engine : Engine} {l : Layer} {map kernel output : List ℤ} {scratch : List ℕ}
    {progress : Progress} {left_output : List ℤ} {left_scratch : List ℕ}
  where
    -- it is a list of one call
    abbrev pub run_list : Called engine (start_of l) (engine.total l) map kernel output scratch progress left_output left_scratch
        → JobCalls engine l map kernel
    run_list called = record {
      first = output;
      calls = record {
        job = start_of l;
        budget = engine.total l;
        map = map;
        kernel = kernel;
        output = output;
        scratch = scratch;
        progress = progress;
        left_output = left_output;
        left_scratch = left_scratch;
        promise = called;
      } ∷ [];
      chained = (refl, refl, (λ e. (refl, refl)), tt);
    }

    module _ (called : Called engine (start_of l) (engine.total l) map kernel output scratch progress left_output left_scratch) where
      pub run_output : output_of (run_list called) ≡ left_output
      run_output = refl

      -- its budget reaches the total where it is accepted
      pub run_reaches : progress.code ≡ 0 → Reaches (run_list called)
      run_reaches e = record { some = rw e (omega arith); enough = rw e (omega arith) }

      -- and then every output is its direct sum
      pub run_frame : Lawful engine → progress.code ≡ 0 → left_output ≡ table (length output) (direct_at l map kernel)
      run_frame lawful e = reached (run_list called) lawful (run_reaches e)

      -- what it leaves
      pub run_output_left : left_output ≡ output_left engine l map kernel output (length scratch)
      run_output_left =
          let all : 0 + min (engine.total l) (engine.total l - 0) ≡ engine.total l = omega arith in
          rw (run_code_lem engine l map kernel (length output) (length scratch), all) at called.writes

      pub run_scratch_left : left_scratch ≡ scratch_left engine l map kernel (length output) scratch
      run_scratch_left = rw (run_code_lem engine l map kernel (length output) (length scratch)) at called.clears
