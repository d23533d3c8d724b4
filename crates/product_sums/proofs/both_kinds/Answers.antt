-- Each kind's calls are a list, and leave what a run leaves; the theorem on two lists gives the sums.
use mathlib.Core.Path.{ap₂}
use mathlib.Core.Bool.{◌&&◌}
use Rattle.algebra.specs.EveryLaws.{both_true}
use Rattle.checks.specs.EngineLaws.{lawful}
use Rattle.product_sums.proofs.ThreeCalls.{lists_agree}
use Rattle.product_sums.proofs.both_kinds.Goals as goal

pub returns : goal.returns
returns c =
    let us = c.three_calls-forward in
    let vs = c.three_calls-backward in
    let g = c.args in
    let same = us.auto.scratch in
    record {
      value = ap₂ ◌&&◌ us.ensures.value (rw same at vs.ensures.value);
      u_after = us.ensures.output_after;
      v_after = rw same at vs.ensures.output_after;
      scratch_after = rw us.ensures.scratch_after at vs.ensures.scratch_after;
      sums_agree = λ paired done.
          let (first, second) = both_true us.result vs.result done in
          lists_agree (lawful g.conv_method) (lawful g.tconv_method) us.ensures.calls_made vs.ensures.calls_made paired first second;
    }
