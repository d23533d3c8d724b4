-- The law of the plain butterfly.
use Rattle.passes.specs.WordLaws.{plain_law}
use Rattle.passes.proofs.butterfly.PlainButterfly.pair.Goals as goal

pub returns : goal.returns
returns c = plain_law c.args.residues.bounded c.args.u c.args.v c.requires.1 c.requires.2
