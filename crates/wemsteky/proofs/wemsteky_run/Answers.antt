-- The run, and its answer as figures.
use Rattle.layer.specs.Shape.{tile_total}
use Rattle.engine.specs.Call.{start_of}
use Rattle.wemsteky.proofs.Reports.{reported}
use Rattle.wemsteky.proofs.wemsteky_run.Goals as goal

pub returns : goal.returns
returns c =
    reported start_of tile_total c.layer_of.ensures c.run_by-progress.ensures c.report.ensures.value c.report.ensures.figures_after
