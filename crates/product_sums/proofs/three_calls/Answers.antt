-- The three calls are a list of calls with a refused one: ThreeCalls says what it comes to.
use mathlib.Core.Path.{refl, ap, ◌∙◌}
use Rattle.checks.specs.EngineLaws.{lawful}
use Rattle.layer.specs.declared.shape.Plan.{Plan}
use Rattle.engine.proofs.CallsLaws.{output_length, scratch_length}
use Rattle.product_sums.proofs.ThreeCalls.{three_calls}
use Rattle.product_sums.proofs.three_calls.Goals as goal

pub shape_of-output : goal.shape_of-output
shape_of-output c =
    output_length c.advance_by-call-3.ensures ∙ output_length c.advance_by-call-2.ensures ∙ output_length c.advance_by-call.ensures

pub shape_of-scratch : goal.shape_of-scratch
shape_of-scratch c =
    scratch_length c.advance_by-call-3.ensures ∙ scratch_length c.advance_by-call-2.ensures ∙ scratch_length c.advance_by-call.ensures

pub returns : goal.returns
returns c =
    let g = c.args in
    let (value, (output, (scratch, made))) =
    three_calls (lawful g.method) g.layer g.budget g.map.now _ g.kernel.now refl
    c.new-job.ensures c.advance_by-call.ensures c.advance_by-call-2.ensures
    (ap (λ (p : Plan). p.parts) c.plan_by-plan.ensures) c.advance_by-call-3.ensures
    in
    record { value = value; output_after = output; scratch_after = scratch; calls_made = made }
