-- The laws of the integers as a commutative ring that `lib.IntN` does not state: associativity, distributivity and negation of products.
-- Every integer is a difference a − b of two naturals, and so are the sum, the product and the negation of differences. An identity
-- of integers is then an equation of naturals, which `omega` proves. Of three variables, by `every₃`:
--   every₃ (λ x y z. L ≡ R) (λ a b c d e f. simp ring (difference-eq _ _ _ _ (omega arith)))
-- It rests on the laws of sums in `lib.IntN`, and on those of products with a successor or a predecessor there.
use Rattle.std.specs.Prelude.{◌≡◌, refl, ℕ, zero, suc, ◌+◌, ◌*◌, ℤ, pos, negsuc, neg_ℤ, ◌+ℤ◌, ◌-ℤ◌, ◌*ℤ◌}
use Rattle.std.proofs.Common.{sym, ap, ap₂, ◌∙◌, add-zero, add_comm, arith}
use Rattle.std.proofs.Math.IntN.{suc_ℤ, pred_ℤ, +ℤ_idl, +ℤ_idr, +ℤ_comm, +ℤ_invr, neg_ℤ-+ℤ, neg_ℤ-neg_ℤ, neg_ℤ-suc_ℤ, suc_ℤ-+ℤ, +ℤ-pred_ℤ, suc_ℤ-*ℤ, pred_ℤ-*ℤ, zero-*ℤ, *ℤ-zero}
use Rattle.algebra.specs.Sum.{sum_z}
use Rattle.algebra.specs.SumLaws.{integers, plus_exchange, sum-map}

-- a − b. It does not unfold, so that `simp` sees it.
pub difference : ℕ → ℕ → ℤ
difference a b = pos a -ℤ pos b

-- What it stands for, and the two forms of an integer as differences.
pub difference_sub : (a b : ℕ) → pos a -ℤ pos b ≡ difference a b
unfolding difference
difference_sub a b = refl

pub difference_pos : (n : ℕ) → pos n ≡ difference n 0
unfolding difference
difference_pos n = ap pos (sym (add-zero n))

pub difference_negsuc : (n : ℕ) → negsuc n ≡ difference 0 (suc n)
unfolding difference
difference_negsuc n = sym (+ℤ_idl (negsuc n))

-- The negation and the sum of differences.
pub difference_neg : (a b : ℕ) → neg_ℤ (difference a b) ≡ difference b a
unfolding difference
difference_neg a b = rw (neg_ℤ-+ℤ, neg_ℤ-neg_ℤ) (+ℤ_comm (neg_ℤ (pos a)) (pos b))

pub difference_add : (a b c d : ℕ) → difference a b +ℤ difference c d ≡ difference (a + c) (b + d)
unfolding difference
difference_add a b c d =
    plus_exchange integers (pos a) (neg_ℤ (pos b)) (pos c) (neg_ℤ (pos d)) ∙ ap (λ z. pos (a + c) +ℤ z) (sym (neg_ℤ-+ℤ (pos b) (pos d)))

-- A number added to both sides changes nothing.
same : (k : ℕ) → difference k k ≡ pos 0
unfolding difference
same k = +ℤ_invr (pos k)

shift : (a b k : ℕ) → difference (a + k) (b + k) ≡ difference a b
shift a b k = sym (difference_add a b k k) ∙ rw (same k) (+ℤ_idr (difference a b))

-- Two differences are equal exactly where a + d and c + b are.
pub difference_eq : (a b c d : ℕ) → a + d ≡ c + b → difference a b ≡ difference c d
difference_eq a b c d e = sym (shift a b d) ∙ ap₂ difference e (add_comm b d) ∙ shift c d b

pub difference_inj : (a b c d : ℕ) → difference a b ≡ difference c d → a + d ≡ c + b
difference_inj a b c d e =
    let q : pos (a + d) ≡ pos (c + b) = clear a b d ∙ rw e (rw (add_comm b d) (sym (clear c d b))) in
    cc
  where
    clear : (a b d : ℕ) → pos (a + d) ≡ difference a b +ℤ pos (b + d)
    clear a b d = simp (difference_pos, difference_add) (difference_eq _ _ _ _ (omega arith))

-- The product of differences, by induction on a and on b.
up : (a b : ℕ) → difference (suc a) b ≡ suc_ℤ (difference a b)
unfolding difference
up a b = suc_ℤ-+ℤ (pos a) (neg_ℤ (pos b))

down : (a b : ℕ) → difference a (suc b) ≡ pred_ℤ (difference a b)
unfolding difference
down a b = ap (λ z. pos a +ℤ z) (neg_ℤ-suc_ℤ (pos b)) ∙ +ℤ-pred_ℤ (pos a) (neg_ℤ (pos b))

pub difference_mul : (a b c d : ℕ) → difference a b *ℤ difference c d ≡ difference (a * c + b * d) (a * d + b * c)
difference_mul zero zero c d = rw (← (difference_pos 0), zero-*ℤ) (difference_pos 0 ∙ difference_eq _ _ _ _ (omega arith))
difference_mul zero (suc b) c d =
    rw (down 0 b, pred_ℤ-*ℤ, difference_mul 0 b c d, difference_neg, difference_add) (difference_eq _ _ _ _ (omega arith))
difference_mul (suc a) b c d = rw (up a b, suc_ℤ-*ℤ, difference_mul a b c d, difference_add) (difference_eq _ _ _ _ (omega arith))

-- These turn an expression of differences into one difference.
pub ruleset ring = (difference_add, difference_mul, difference_neg)

-- What holds of every difference holds of every integer.
pub every₁ : (P : ℤ → Type 0) → ((a b : ℕ) → P (difference a b)) → (x : ℤ) → P x
every₁ P f (pos n) = rw difference_pos (f n 0)
every₁ P f (negsuc n) = rw difference_negsuc (f 0 (suc n))

pub every₂ : (P : ℤ → ℤ → Type 0) → ((a b c d : ℕ) → P (difference a b) (difference c d)) → (x y : ℤ) → P x y
every₂ P f x y = every₁ (λ x. P x y) (λ a b. every₁ (P (difference a b)) (f a b) y) x

pub every₃ : (P : ℤ → ℤ → ℤ → Type 0) → ((a b c d e f : ℕ) → P (difference a b) (difference c d) (difference e f)) → (x y z : ℤ) → P x y z
every₃ P f x y z = every₁ (λ x. P x y z) (λ a b. every₂ (P (difference a b)) (f a b) y z) x

-- The laws of the product.
pub *ℤ_assoc : (x y z : ℤ) → (x *ℤ y) *ℤ z ≡ x *ℤ (y *ℤ z)
*ℤ_assoc = every₃ (λ x y z. (x *ℤ y) *ℤ z ≡ x *ℤ (y *ℤ z)) (λ a b c d e f. simp ring (difference_eq _ _ _ _ (omega arith)))

pub *ℤ-+ℤ : (x y z : ℤ) → x *ℤ (y +ℤ z) ≡ x *ℤ y +ℤ x *ℤ z
*ℤ-+ℤ = every₃ (λ x y z. x *ℤ (y +ℤ z) ≡ x *ℤ y +ℤ x *ℤ z) (λ a b c d e f. simp ring (difference_eq _ _ _ _ (omega arith)))

pub +ℤ-*ℤ : (x y z : ℤ) → (x +ℤ y) *ℤ z ≡ x *ℤ z +ℤ y *ℤ z
+ℤ-*ℤ = every₃ (λ x y z. (x +ℤ y) *ℤ z ≡ x *ℤ z +ℤ y *ℤ z) (λ a b c d e f. simp ring (difference_eq _ _ _ _ (omega arith)))

pub negℤ_*ℤ : (x y : ℤ) → neg_ℤ x *ℤ y ≡ neg_ℤ (x *ℤ y)
negℤ_*ℤ = every₂ (λ x y. neg_ℤ x *ℤ y ≡ neg_ℤ (x *ℤ y)) (λ a b c d. simp ring (difference_eq _ _ _ _ (omega arith)))

pub *ℤ_negℤ : (x y : ℤ) → x *ℤ neg_ℤ y ≡ neg_ℤ (x *ℤ y)
*ℤ_negℤ = every₂ (λ x y. x *ℤ neg_ℤ y ≡ neg_ℤ (x *ℤ y)) (λ a b c d. simp ring (difference_eq _ _ _ _ (omega arith)))

-- A factor goes before a sum, on either side.
pub sum_z_mul : (n : ℕ) (z : ℤ) (f : ℕ → ℤ) → sum_z n (λ i. z *ℤ f i) ≡ z *ℤ sum_z n f
sum_z_mul n z f = sum-map integers integers (λ x. z *ℤ x) (*ℤ-zero z) (*ℤ-+ℤ z) n f

pub sum_z_mul_right : (n : ℕ) (f : ℕ → ℤ) (z : ℤ) → sum_z n (λ i. f i *ℤ z) ≡ sum_z n f *ℤ z
sum_z_mul_right n f z = sum-map integers integers (λ x. x *ℤ z) (zero-*ℤ z) (λ x y. +ℤ-*ℤ x y z) n f
