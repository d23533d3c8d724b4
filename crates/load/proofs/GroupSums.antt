-- The sum over a group in a plane, as the code makes it and as the load has it. By 1 it is the sum over the whole plane. It rests on the laws of
-- sums.
use mathlib.Core.Path.{◌≡◌, refl, sym, ap, ◌∙◌}
use mathlib.Core.Bool.{Bool, true, false, ◌&&◌, cond}
use mathlib.Core.List.{List}
use Prim.Native.Nat.{ℕ, ◌+◌, ◌*◌, ◌%◌}
use native.Mathlib.Nat.{mod-one}
use native.Mathlib.Numerals.{add-one}
use lib.Dec.{eqb}
use lib.IntN.{ℤ, pos, nat_abs}
use lib.ListN.{length, get_or}
use Rattle.algebra.specs.Sum.{sum}
use Rattle.algebra.specs.SumLaws.{naturals, sum_cong, sum_zero, sum_flat, sum_last}
use Rattle.load.specs.declared.groups.Group.{Group}
use Rattle.load.specs.Load.{in_group}
use Rattle.load.specs.Weights.{size_sum, apart, group_sum}

-- what one number more adds
pub size_next : (n : ℕ) (f : ℕ → ℕ) → sum (n + 1) f ≡ sum n f + f n
size_next n f = rw add-one (sum_last n f)

-- the sum over a group of K by K numbers
abbrev pub group_of : (K S p q : ℕ) → (ℕ → ℕ → ℕ) → ℕ
group_of K S p q f = sum K (λ a. sum K (λ b. cond (in_group S p q a b) (f a b) 0))

cond_both : (one two : Bool) (n : ℕ) → cond one (cond two n 0) 0 ≡ cond (one && two) n 0
cond_both true two n = refl
cond_both false two n = refl

cond_sum : (n : ℕ) (test : Bool) (f : ℕ → ℕ) → cond test (sum n f) 0 ≡ sum n (λ i. cond test (f i) 0)
cond_sum n true f = refl
cond_sum n false f = sym (sum_zero naturals n (λ i. 0) (λ i l. refl))

pub group_sum_is : (K : ℕ) (plane : List ℤ) (g : Group)
    → group_sum K plane g ≡ group_of K g.step g.row g.column (λ a b. nat_abs (get_or plane (a * K + b) (pos 0)))
unfolding group_sum apart
group_sum_is K plane g = sum_cong naturals K _ _ (λ a _.
    cond_sum K (eqb (a % g.step) g.row) _ ∙ sum_cong naturals K _ _ (λ b _. cond_both (eqb (a % g.step) g.row) (eqb (b % g.step) g.column) _))

-- the group of all weights
pub whole_plane : (K : ℕ) (plane : List ℤ) (g : Group) → length plane ≡ K * K → g.step ≡ 1 → g.row ≡ 0 → g.column ≡ 0
    → size_sum plane ≡ group_sum K plane g
unfolding size_sum group_sum apart
whole_plane K plane g whole step row column =
    ap (λ (n : ℕ). sum n (λ i. nat_abs (get_or plane i (pos 0)))) whole
    ∙ sym (sum_flat naturals K K (λ i. nat_abs (get_or plane i (pos 0))))
    ∙ sum_cong naturals K _ _ (λ a _. sum_cong naturals K _ _ (λ b _. sym (all b g.column column _)) ∙ sym (all a g.row row _))
  where
    all : (i r : ℕ) → r ≡ 0 → (n : ℕ) → cond (eqb (i % g.step) r) n 0 ≡ n
    all i r e n = ap (λ (s : ℕ). cond (eqb (i % s) r) n 0) step ∙ rw (e, mod-one i)
