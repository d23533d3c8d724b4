-- The law of the forward butterfly. A bound is a multiple of the modulus.
use Rattle.passes.specs.WordLaws.{bound_multiple, forward_law}
use Rattle.passes.proofs.butterfly.ForwardButterfly.pair.Goals as goal

pub times_power-requires-clause-multiple : goal.times_power-requires-clause-multiple
times_power-requires-clause-multiple c = bound_multiple c.args.residues.bounded

pub returns : goal.returns
returns c =
    let a = c.args in
    forward_law a.residues.bounded a.u a.v c.requires.1 c.requires.2 a.t c.times_power.result c.times_power.ensures
