-- The job's preview, and its answer as figures.
use lib.ListN.{length}
use Rattle.checks.specs.Engine.{strip_engine}
use Rattle.engine.specs.declared.job.Job.{Job}
use Rattle.engine.specs.Preview.{preview_of}
use Rattle.wemsteky.proofs.Reports.{previewed}
use Rattle.wemsteky.proofs.wemsteky_strip_preview.Goals as goal

pub returns : goal.returns
returns c =
    let g = c.args in
    let made =
    previewed (λ (j : Job). preview_of strip_engine j g.budget g.map.now g.kernel.now (length g.output.now) (length g.scratch.now))
    c.job_of-job.ensures c.preview_by-preview.ensures c.report_preview.ensures.value c.report_preview.ensures.figures_after
    in record { value = made.0; figures_after = made.1 }
