-- The layer is that of the sixteen numbers.
use mathlib.Core.Path.{ap}
use Rattle.layer.specs.declared.shape.Layer.{Layer}
use Rattle.engine.specs.declared.job.Job.{Job}
use Rattle.wemsteky.proofs.job_of.Goals as goal

pub returns : goal.returns
returns c =
    ap {B = Job} (λ (l : Layer). record { layer = l; next = c.args.next }) c.layer_of.ensures
