-- The law of the inverse butterfly, and that the second word times the power is at most the bound.
use Prim.Native.Nat.{◌-◌}
use Rattle.passes.specs.WordLaws.{inverse_law}
use Rattle.passes.proofs.butterfly.InverseButterfly.pair.Goals as goal

pub returns : goal.returns
returns c =
    let a = c.args in
    inverse_law a.residues.bounded a.u a.v c.requires.1 c.requires.2 (a.residues.bits - a.t) c.times_power-w.result c.times_power-w.ensures
