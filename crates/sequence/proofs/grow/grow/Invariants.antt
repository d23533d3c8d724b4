-- Turn after turn: the step before k was run; its levels become the map of step k, and that is run.
use Rattle.std.proofs.Common.{◌≡◌, ◌-◌, length}
use Rattle.steps.specs.Steps.{step_at}
use Rattle.sequence.specs.Ready.{Ran}
use Rattle.sequence.proofs.grow.grow.Given as goal

abbrev pub invariant-loop-k : goal.invariant-loop-k
invariant-loop-k l =
    record {
      ran : Ran (step_at l.steps) l.map l.kernels (l.k - 1) l.output;
      work_long : length l.work ≡ length l.initial.work;
      output_long : length l.output ≡ length l.initial.output;
      scratch_long : length l.scratch ≡ length l.initial.scratch;
    }
