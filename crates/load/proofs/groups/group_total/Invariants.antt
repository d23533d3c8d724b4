-- `group_total` adds plane after plane: the sum so far is that of the map channels before c. It rests on the laws of planes.
use mathlib.Core.Path.{◌≡◌}
use mathlib.Core.List.{List}
use Prim.Native.Nat.{ℕ, ◌*◌, ◌≤◌}
use lib.IntN.{ℤ, nat_abs}
use Rattle.algebra.specs.Planes.{cell}
use Rattle.algebra.specs.Sum.{sum}
use Rattle.layer.specs.Direct.{plane_of}
use Rattle.layer.specs.declared.shape.Layer.{Layer}
use Rattle.load.specs.declared.groups.Group.{Group}
use Rattle.load.proofs.GroupSums.{group_of}
use Rattle.load.proofs.groups.group_total.Given as goal

-- the sum over the group in plane p, and in the plane of map channel c
abbrev pub group_in : Layer → List ℤ → Group → (p : ℕ) → ℕ
group_in l kernel g p = group_of l.side g.step g.row g.column (λ a b. nat_abs (cell l.side l.side kernel p a b))

abbrev pub plane_total : Layer → List ℤ → (m : ℕ) → Group → (c : ℕ) → ℕ
plane_total l kernel m g c = group_in l kernel g (plane_of l m c)

abbrev pub invariant-loop-c : goal.invariant-loop-c
invariant-loop-c l =
    (l.total ≡ sum l.c (λ i. plane_total l.layer l.kernel l.m l.group i)) × (l.total ≤ 121 * 32768 * l.c)
