-- `put_run`: the part of the buffer that is lent is as long as the layer's count, which fits since the layer is small.
use mathlib.Core.Path.{sym, ◌∙◌}
use Prim.Native.Nat.{◌≤◌}
use native.Mathlib.Omega.{arith}
use borrow.Author.Rules.{rules}
use lib.Seq.{length-take-le}
use Rattle.bench_text.proofs.Counts.{small_output}
use Rattle.bench_text.proofs.answer.put_run.Goals as goal
use Rattle.bench_text.proofs.answer.put_run.Goals.{After-output_count-outputs}

-- the count of the layer is made, and fits the buffer
module _ (c : After-output_count-outputs) where
  output_fits : c.output_count-outputs.result ≤ 1024
  output_fits = omega (arith, c.output_count-outputs.ensures, small_output c.args.layer c.requires.1)

pub slice_bounds-output-end : goal.slice_bounds-output-end
slice_bounds-output-end c = output_fits (goal.at.slice_bounds-output-end c).After-output_count-outputs

pub slice_bounds-put_outputs-end : goal.slice_bounds-put_outputs-end
slice_bounds-put_outputs-end c = sym (length-take-le _ _ (output_fits (goal.at.slice_bounds-put_outputs-end c).After-output_count-outputs))

pub put_outputs-requires : goal.put_outputs-requires
put_outputs-requires c =
    (c.requires.0, length-take-le _ _ (output_fits (goal.at.put_outputs-requires c).After-output_count-outputs) ∙ c.output_count-outputs.ensures, small_output c.args.layer c.requires.1, search rules)
