-- What is answered decides: a refused call stores nothing, an accepted one the values in the parts up to the next of the answer. Outcomes says what these
-- come to.
use Prim.Native.Nat.{◌≤◌}
use native.Mathlib.Omega.{arith}
use lib.ListN.{length}
use Rattle.layer.specs.Planned.{Planned}
use Rattle.checks.specs.Engine.{Engine, engine_of}
use Rattle.checks.specs.EngineLaws.{lawful}
use Rattle.engine.proofs.Outcomes.{told_callable, told_order, refused_preview, accepted_preview}
use Rattle.engine.proofs.job.Job.preview_by.Goals as goal
use Rattle.engine.proofs.job.Job.preview_by.Goals.{Then-progress-eq0}

-- the code is 0: what that says of the call, and of the part that it goes up to
module _ (c : Then-progress-eq0) where
  abbrev engine : Engine
  engine = engine_of c.args.method

  plan : Planned c.args.self.layer
  plan =
      let g = c.args in
      (told_callable engine g.self g.budget g.map.now g.kernel.now (length g.output.now) (length g.scratch.now)
      c.answer_by-progress.ensures (lawful g.method) c.if-progress-eq0.true).plan

  order : let job = c.args.self in
      let to = c.answer_by-progress.result.job.next in
      (job.next ≤ to) × (to ≤ engine.total job.layer)
  order =
      let g = c.args in
      told_order engine g.self g.budget g.map.now g.kernel.now (length g.output.now) (length g.scratch.now)
      c.answer_by-progress.ensures (lawful g.method) c.if-progress-eq0.true

pub values_in-values-requires : goal.values_in-values-requires
values_in-values-requires c = (plan c, omega (arith, (order c).0), (order c).1)

pub returns-then-progress-eq0 : goal.returns-then-progress-eq0
returns-then-progress-eq0 c =
    let g = c.args in
    accepted_preview (engine (goal.at.returns-then-progress-eq0 c).Then-progress-eq0) g.self g.budget g.map.now g.kernel.now (length g.output.now) (length g.scratch.now)
    c.answer_by-progress.ensures c.if-progress-eq0.true c.values_in-values.ensures

pub returns-else-progress-eq0 : goal.returns-else-progress-eq0
returns-else-progress-eq0 c =
    let g = c.args in
    refused_preview (engine_of g.method) g.self g.budget g.map.now g.kernel.now (length g.output.now) (length g.scratch.now)
    c.answer_by-progress.ensures c.if-progress-eq0.false
