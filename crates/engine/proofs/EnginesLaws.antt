-- 02, E5: two engines side by side. On a layer that both accept, all outputs agree, since both are the direct sums: for lists of calls whose budgets
-- reach their totals, and so for whole runs. It rests on the laws of lists of calls and of runs.
use Rattle.std.specs.Prelude.{◌≡◌, List, ℕ, ℤ, length}
use Rattle.std.proofs.Common.{sym, ap, ◌∙◌}
use Rattle.algebra.specs.Places.{table}
use Rattle.layer.specs.declared.shape.Layer.{Layer}
use Rattle.layer.specs.Direct.{direct_at}
use Rattle.checks.specs.Engine.{Engine, Lawful}
use Rattle.engine.specs.declared.job.Progress.{Progress}
use Rattle.engine.specs.Call.{start_of, Called}
use Rattle.engine.specs.Calls.{JobCalls, output_of, Reaches}
use Rattle.engine.proofs.CallsLaws.{calls_callable, reached}
use Rattle.engine.proofs.RunLaws.{run_list, run_output, run_reaches}

-- two lists of calls, each of an engine, with one layer, map and kernel; refused calls may stand between
pub outputs_agree : {one other : Engine} → Lawful one → Lawful other → {l : Layer} {map kernel : List ℤ}
    (us : JobCalls one l map kernel) (vs : JobCalls other l map kernel) → Reaches us → Reaches vs → output_of us ≡ output_of vs
outputs_agree one-lawful other-lawful {l} {map} {kernel} us vs u-reaches v-reaches =
    let u-length = (calls_callable us one-lawful u-reaches.some).callable.output_length in
    let v-length = (calls_callable vs other-lawful v-reaches.some).callable.output_length in
    let same : length us.first ≡ length vs.first = u-length ∙ sym v-length in
    reached us one-lawful u-reaches
    ∙ ap (λ (n : ℕ). table n (direct_at l map kernel)) same
    ∙ sym (reached vs other-lawful v-reaches)

-- two runs, whatever the outputs and scratch held
pub runs_agree : {one other : Engine} → Lawful one → Lawful other → {l : Layer} {map kernel u v u-left v-left : List ℤ}
    {r s r-left s-left : List ℕ} {p q : Progress}
    → Called one (start_of l) (one.total l) map kernel u r p u-left r-left
    → Called other (start_of l) (other.total l) map kernel v s q v-left s-left
    → p.code ≡ 0 → q.code ≡ 0 → u-left ≡ v-left
runs_agree one-lawful other-lawful us vs e f =
    sym (run_output us) ∙ outputs_agree one-lawful other-lawful (run_list us) (run_list vs) (run_reaches us e) (run_reaches vs f) ∙ run_output vs
