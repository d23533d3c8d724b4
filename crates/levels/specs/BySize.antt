-- Functions F of integers that are given by a function f of sizes, F n = f n and F (−n) = −f n: such an F is odd, and it is near where f is.
use Rattle.std.specs.Prelude.{◌≡◌, refl, Bool, true, false, cond, ℕ, zero, suc, ◌+◌, ◌-◌, ◌≤◌, ltb, ℤ, pos, negsuc, neg_ℤ, nat_abs, ◌-ℤ◌}
use Rattle.std.proofs.Common.{sym, ap, ◌∙◌, arith, ltb-true, ltb-false}
use Rattle.std.proofs.Math.IntN.{neg_ℤ-neg_ℤ, neg_ℤ-+ℤ}
use Rattle.algebra.specs.SizeLaws.{size_neg}

-- what holds of n and of −n, for every n, holds of every integer
pub by_sign : (P : ℤ → Type 0) → ((n : ℕ) → P (pos n)) → ((n : ℕ) → P (neg_ℤ (pos n))) → (z : ℤ) → P z
by_sign P f g (pos n) = f n
by_sign P f g (negsuc n) = g (suc n)

-- ---- distances

-- one of the two differences is 0
apart : (a b : ℕ) → nat_abs (pos a -ℤ pos b) ≡ (a - b) + (b - a)
apart a zero = omega arith
apart a (suc b) = go (ltb a (suc b)) refl
  where
    go : (t : Bool) → ltb a (suc b) ≡ t → nat_abs (cond t (negsuc (suc b - suc a)) (pos (a - suc b))) ≡ (a - suc b) + (suc b - a)
    go true e = omega (arith, ltb-true a (suc b) e)
    go false e = omega (arith, ltb-false a (suc b) e)

apart-across : (a b : ℕ) → nat_abs (pos a -ℤ neg_ℤ (pos b)) ≡ a + b
apart-across a b = rw (neg_ℤ-neg_ℤ (pos b)) refl

-- the sign goes from one number to the other
apart_turned : (x y : ℤ) → nat_abs (neg_ℤ x -ℤ y) ≡ nat_abs (x -ℤ neg_ℤ y)
apart_turned x y = sym (size_neg (neg_ℤ x -ℤ y)) ∙ ap nat_abs (neg_ℤ-+ℤ (neg_ℤ x) (neg_ℤ y)) ∙ rw (neg_ℤ-neg_ℤ x) refl

-- ---- functions by size

pub record BySize (f : ℕ → ℕ) (F : ℤ → ℤ) : Type 0 where
  pub at_pos : (n : ℕ) → F (pos n) ≡ pos (f n)
  pub at_neg : (n : ℕ) → F (neg_ℤ (pos n)) ≡ neg_ℤ (pos (f n))

module _ {f : ℕ → ℕ} {F : ℤ → ℤ} (by : BySize f F) where
  pub odd_by_size : (z : ℤ) → F (neg_ℤ z) ≡ neg_ℤ (F z)
  odd_by_size = by_sign
      (λ z. F (neg_ℤ z) ≡ neg_ℤ (F z))
      (λ n. rw (by.at_pos n) (by.at_neg n))
      (λ n. rw (neg_ℤ-neg_ℤ (pos n), by.at_neg n, neg_ℤ-neg_ℤ (pos (f n))) (by.at_pos n))

  -- sizes that are d apart on one side of zero, or d in all across it, become e apart, or e in all
  module _ (d e : ℕ) (beside : (a b : ℕ) → a ≤ b + d → f a ≤ f b + e) (across : (a b : ℕ) → a + b ≤ d → f a + f b ≤ e) where
    near_pos : (a : ℕ) (y : ℤ) → nat_abs (pos a -ℤ y) ≤ d → nat_abs (F (pos a) -ℤ F y) ≤ e
    near_pos a = by_sign
        (λ y. nat_abs (pos a -ℤ y) ≤ d → nat_abs (F (pos a) -ℤ F y) ≤ e)
        (λ b h. rw (by.at_pos a, by.at_pos b, apart (f a) (f b))
        (omega (arith, beside a b (omega (arith, apart a b, h)), beside b a (omega (arith, apart a b, h)))))
        (λ b h. rw (by.at_pos a, by.at_neg b, apart-across (f a) (f b)) (across a b (omega (arith, apart-across a b, h))))

    pub near_by_size : (x y : ℤ) → nat_abs (x -ℤ y) ≤ d → nat_abs (F x -ℤ F y) ≤ e
    near_by_size x y = by_sign
        (λ x. nat_abs (x -ℤ y) ≤ d → nat_abs (F x -ℤ F y) ≤ e)
        (λ a. near_pos a y)
        (λ a h. rw (odd_by_size (pos a), apart_turned (F (pos a)) (F y), ← odd_by_size y)
        (near_pos a (neg_ℤ y) (rw (apart_turned (pos a) y) at h)))
        x
