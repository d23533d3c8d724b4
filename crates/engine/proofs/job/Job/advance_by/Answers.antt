-- What is answered decides: a refused call changes nothing; an accepted one finishes the parts up to the next of the answer, and clears. Outcomes says
-- what these come to.
use Prim.Native.Nat.{◌≤◌}
use native.Mathlib.Omega.{arith}
use lib.ListN.{length}
use Rattle.checks.specs.Callable.{Callable}
use Rattle.checks.specs.Engine.{Engine, engine_of}
use Rattle.checks.specs.EngineLaws.{lawful}
use Rattle.engine.proofs.Outcomes.{told_callable, told_order, refused_call, accepted_call}
use Rattle.engine.proofs.Scratch.{changed_cleared}
use Rattle.engine.proofs.job.Job.advance_by.Goals as goal
use Rattle.engine.proofs.job.Job.advance_by.Goals.{Else-progress-ne0}

-- the code is 0: what that says of the call, and of the part that it goes up to
module _ (c : Else-progress-ne0) where
  abbrev engine : Engine
  engine = engine_of c.args.method

  passed : let g = c.args in
      Callable engine g.self.layer g.map.now g.kernel.now (length g.output.now) (length g.scratch.now)
  passed =
      let g = c.args in
      told_callable engine g.self g.budget g.map.now g.kernel.now (length g.output.now) (length g.scratch.now)
      c.answer_by-progress.ensures (lawful g.method) c.if-progress-ne0.false

  order : let job = c.args.self in
      let to = c.answer_by-progress.result.job.next in
      (job.next ≤ to) × (to ≤ engine.total job.layer)
  order =
      let g = c.args in
      told_order engine g.self g.budget g.map.now g.kernel.now (length g.output.now) (length g.scratch.now)
      c.answer_by-progress.ensures (lawful g.method) c.if-progress-ne0.false

pub returns-then-progress-ne0 : goal.returns-then-progress-ne0
returns-then-progress-ne0 c =
    let g = c.args in
    refused_call (engine_of g.method) g.self g.budget g.map.now g.kernel.now g.output.now g.scratch.now
    c.answer_by-progress.ensures c.if-progress-ne0.true

pub finish_parts-requires : goal.finish_parts-requires
finish_parts-requires c =
    record { callable = passed (goal.at.finish_parts-requires c).Else-progress-ne0; from_le_to = (omega (arith, (order (goal.at.finish_parts-requires c).Else-progress-ne0).0), (order (goal.at.finish_parts-requires c).Else-progress-ne0).1) }

pub scratch_words-requires : goal.scratch_words-requires
scratch_words-requires c =
    (passed (goal.at.scratch_words-requires c).Else-progress-ne0).plan.shape

pub clear-requires : goal.clear-requires
clear-requires c =
    (omega arith, omega (arith, c.scratch_words.ensures, c.finish_parts.ensures.changed.same_length, (passed (goal.at.clear-requires c).Else-progress-ne0).scratch_low))

pub returns : goal.returns
returns c =
    let g = c.args in
    let zeroed = rw c.scratch_words.ensures at c.clear.ensures in
    accepted_call (engine (goal.at.returns c).Else-progress-ne0) g.self g.budget g.map.now g.kernel.now g.output.now g.scratch.now
    c.answer_by-progress.ensures c.if-progress-ne0.false c.finish_parts.ensures.output_after
    (changed_cleared ((engine (goal.at.returns c).Else-progress-ne0).words g.self.layer) (passed (goal.at.returns c).Else-progress-ne0).scratch_low c.finish_parts.ensures.changed zeroed)
