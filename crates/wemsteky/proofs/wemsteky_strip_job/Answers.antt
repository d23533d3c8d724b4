-- The job's call by strips, and its answer as figures.
use Rattle.engine.specs.declared.job.Job.{Job}
use Rattle.wemsteky.proofs.Reports.{reported}
use Rattle.wemsteky.proofs.wemsteky_strip_job.Goals as goal

pub returns : goal.returns
returns c =
    let g = c.args in
    reported (λ (j : Job). j) (λ (j : Job). g.budget) c.job_of-job.ensures c.advance_by-progress.ensures
    c.report.ensures.value c.report.ensures.figures_after
