-- The kernel by planes: plane p is the run of K² weights from p·K² on, and what the code reads in the run is the weight at the plane's row and
-- column. It rests on the laws of lists.
use mathlib.Core.Path.{◌≡◌, ap, ◌∙◌}
use mathlib.Core.Bool.{cond}
use mathlib.Core.List.{List}
use Prim.Native.Nat.{ℕ, ◌+◌, ◌*◌, ◌-◌, ◌≤◌, ◌<◌}
use native.Mathlib.Omega.{arith}
use lib.Arith.{digits_lt}
use lib.IntN.{ℤ, pos, nat_abs}
use lib.ListN.{length, get_or, take, drop, length-take, length-drop}
use lib.Seq.{get_or-take, get_or-drop}
use Rattle.algebra.specs.Planes.{cell}
use Rattle.algebra.specs.SumLaws.{naturals, sum_cong}
use Rattle.load.specs.declared.groups.Group.{Group}
use Rattle.load.specs.Load.{in_group}
use Rattle.load.specs.Weights.{group_sum}
use Rattle.load.proofs.GroupSums.{group_of, group_sum_is}

-- n values from `from` on, as the code lends them
abbrev pub part : List ℤ → (from n : ℕ) → List ℤ
part values from n = take (from + n - from) (drop from values)

module _ (values : List ℤ) (from n : ℕ) (fits : from + n ≤ length values) where
  pub part_length : length (part values from n) ≡ n
  part_length = simp (length-take, length-drop) (omega arith)

  part_at : (i : ℕ) → i < n → get_or (part values from n) i (pos 0) ≡ get_or values (from + i) (pos 0)
  part_at i l = get_or-take (from + n - from) (drop from values) i (pos 0) (omega arith) ∙ get_or-drop from values i (pos 0)

-- the sum over a group in plane p, as the load has it
pub plane_group : (K : ℕ) (kernel : List ℤ) (p : ℕ) (g : Group) → p * (K * K) + K * K ≤ length kernel
    → group_sum K (part kernel (p * (K * K)) (K * K)) g ≡ group_of K g.step g.row g.column (λ a b. nat_abs (cell K K kernel p a b))
plane_group K kernel p g fits =
    group_sum_is K (part kernel (p * (K * K)) (K * K)) g
    ∙ sum_cong naturals K _ _ (λ a la. sum_cong naturals K _ _ (λ b lb.
    ap (λ (z : ℤ). cond (in_group g.step g.row g.column a b) (nat_abs z) 0) (weight a b la lb)))
  where
    place : (a b : ℕ) → p * (K * K) + (a * K + b) ≡ (p * K + a) * K + b
    place a b = omega arith

    weight : (a b : ℕ) → a < K → b < K → get_or (part kernel (p * (K * K)) (K * K)) (a * K + b) (pos 0) ≡ cell K K kernel p a b
    weight a b la lb =
        part_at kernel (p * (K * K)) (K * K) fits (a * K + b) (digits_lt la lb) ∙ ap (λ (i : ℕ). get_or kernel i (pos 0)) (place a b)
