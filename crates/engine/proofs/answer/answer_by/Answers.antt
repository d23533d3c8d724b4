-- The code decides: a refused call answers with the job as given, an accepted one with the parts counted. Outcomes says what these come to.
use mathlib.Core.Path.{◌≡◌, sym, ◌∙◌}
use Prim.Native.Nat.{◌≤◌}
use native.Mathlib.Omega.{arith}
use Rattle.checks.specs.Callable.{Callable}
use Rattle.checks.specs.Engine.{Engine, engine_of}
use Rattle.checks.specs.ChecksLaws.{job_callable}
use Rattle.checks.specs.EngineLaws.{lawful}
use Rattle.engine.specs.Call.{call_code}
use Rattle.engine.proofs.Outcomes.{refused_answer, accepted_answer}
use Rattle.engine.proofs.answer.answer_by.Goals as goal
use Rattle.engine.proofs.answer.answer_by.Goals.{Else-checked-ne0}

-- the c is 0: what that says of the c
module _ (c : Else-checked-ne0) where
  abbrev engine : Engine
  engine = engine_of c.args.method

  accepts : let g = c.args in call_code engine g.job g.map.now g.kernel.now g.output g.scratch ≡ 0
  accepts = sym c.check_job-checked.ensures.code_value ∙ c.if-checked-ne0.false

  passed : let g = c.args in
      Callable engine g.job.layer g.map.now g.kernel.now g.output g.scratch × (g.job.next ≤ engine.total g.job.layer)
  passed =
      let g = c.args in
      job_callable engine g.job.layer g.map.now g.kernel.now g.output g.scratch (lawful g.method) g.job.next accepts

pub returns-then-checked-ne0 : goal.returns-then-checked-ne0
returns-then-checked-ne0 c =
    let g = c.args in
    c.refusal.ensures
    ∙ refused_answer (engine_of g.method) g.job g.budget g.map.now g.kernel.now g.output g.scratch
    c.check_job-checked.result.code c.check_job-checked.ensures.code_value c.if-checked-ne0.true c.check_job-checked.ensures.offender_value

pub part_total-total-requires : goal.part_total-total-requires
part_total-total-requires c = (passed c).0.plan

pub overflow_sub-total : goal.overflow_sub-total
overflow_sub-total c = omega (arith, c.part_total-total.ensures, (passed (goal.at.overflow_sub-total c).Else-checked-ne0).1)

pub returns : goal.returns
returns c =
    let g = c.args in
    let is = rw c.part_total-total.ensures at c.min-count.ensures in
    rw (c.acceptance.ensures, c.part_total-total.ensures)
    (accepted_answer (engine (goal.at.returns c).Else-checked-ne0) g.job g.budget g.map.now g.kernel.now g.output g.scratch c.min-count.result (accepts (goal.at.returns c).Else-checked-ne0) is)
