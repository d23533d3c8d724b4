-- The figures as given, and no map value beyond the peak.
use mathlib.Core.Path.{ap}
use Rattle.load.specs.declared.offender.Offender.{Offender}
use Rattle.engine.specs.declared.job.Progress.{Progress}
use Rattle.engine.proofs.answer.acceptance.Goals as goal

pub returns : goal.returns
returns c =
    let a = c.args in
    ap {B = Progress}
    (λ (o : Offender). record { code = 0; count = a.count; job = record { layer = a.layer; next = a.next }; done = a.done; offender = o })
    c.none.ensures
