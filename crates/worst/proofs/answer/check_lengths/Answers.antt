-- The last rule is a test by a range.
use Rattle.base.specs.RefusalsLaws.{required-steps}
use Rattle.worst.proofs.answer.check_lengths.Goals as goal

pub returns : goal.returns
returns c = search required-steps depth 20 fits 4000
