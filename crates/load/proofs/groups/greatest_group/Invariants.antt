-- `greatest_group` takes the groups in one row, that of (p, q) at place p·S + q: `most` is the greatest before place i. It rests on the laws of
-- greatest numbers.
use mathlib.Core.Path.{◌≡◌}
use mathlib.Core.List.{List}
use Prim.Native.Nat.{ℕ, ◌*◌, ◌/◌, ◌%◌, ◌≤◌}
use lib.IntN.{ℤ}
use Rattle.algebra.specs.Greatest.{greatest}
use Rattle.layer.specs.declared.shape.Layer.{Layer}
use Rattle.load.specs.Load.{group_total}
use Rattle.load.proofs.groups.greatest_group.Given as goal

-- the sum of the group at place i
abbrev pub total_at : Layer → List ℤ → (m i : ℕ) → ℕ
total_at l kernel m i = group_total l kernel m l.stride (i / l.stride) (i % l.stride)

abbrev pub invariant-loop-i : goal.invariant-loop-i
invariant-loop-i l =
    (l.most ≡ greatest l.i (total_at l.layer l.kernel l.m)) × (l.most ≤ 121 * 32768 * 64)
