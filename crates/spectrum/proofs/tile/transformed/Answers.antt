-- A multiple of the bound is one.
use Rattle.passes.specs.WordLaws.{bound_times}
use Rattle.spectrum.proofs.tile.transformed.Goals as goal

pub invariant_of-result : goal.invariant_of-result
invariant_of-result c = record { bounded = bound_times c.args.residues.bounded c.args.n c.requires.0 c.requires.1 }
