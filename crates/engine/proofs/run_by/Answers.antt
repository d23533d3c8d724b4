-- The job's call with the plan's parts as its budget. Outcomes says that it comes to that with the total.
use Rattle.checks.specs.Engine.{engine_of}
use Rattle.engine.proofs.Outcomes.{planned_budget}
use Rattle.engine.proofs.run_by.Goals as goal

pub returns : goal.returns
returns c =
    let g = c.args in
    planned_budget (engine_of g.method) g.layer g.map.now g.kernel.now g.output.now g.scratch.now
    (rw (c.plan_by-plan.ensures, c.new-job.ensures) at c.advance_by.ensures)
