-- The state of the loop after p passes is After, and the bound has doubled p times; a pass takes it to the next one, in either direction.
use mathlib.Core.Path.{◌≡◌}
use Prim.Native.Nat.{◌*◌, ◌/◌, ◌^◌}
use Rattle.passes.proofs.LanePasses.{After}
use Rattle.passes.proofs.transform_lanes.Given as goal

abbrev pub invariant-loop-p : goal.invariant-loop-p
invariant-loop-p g l =
    let given = l.fn.residues in
    (l.residues.bits ≡ given.bits) × (l.residues.bound ≡ given.bound * 2 ^ l.p)
    × After g.T.Transform.direction given.bits given.bound l.unit l.n l.filled l.lanes l.p (l.n / 2 ^ l.p) l.initial.words l.words
