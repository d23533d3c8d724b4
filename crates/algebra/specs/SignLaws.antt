-- Signs: a number taken from 0, tests against 0, the size of a number below 0, how far the difference of two reaches, and the range of a number.
-- It rests on the definitions alone.
use Rattle.std.specs.Prelude.{◌≡◌, refl, Bool, true, false, cond, ℕ, zero, suc, ◌+◌, ◌-◌, ◌≤◌, ◌<◌, T, ltb, ℤ, pos, negsuc, neg_ℤ, nat_abs, ◌+ℤ◌, ◌-ℤ◌, ◌≤ℤ◌}
use Rattle.std.proofs.Common.{◌∙◌, subst, arith, ltb-true, le→leb}
use Rattle.std.proofs.Math.IntN.{suc_ℤ, +ℤ_idl, +ℤ_one, neg_ℤ-neg_ℤ}
use Rattle.std.specs.Int.Signed.{mag, lt_z, non_neg}

pub zero_minus : (z : ℤ) → pos 0 -ℤ z ≡ neg_ℤ z
zero_minus z = +ℤ_idl (neg_ℤ z)

pub not_below : (z : ℤ) → lt_z z (pos 0) ≡ false → T (non_neg z)
not_below (pos n) e = tt
not_below (negsuc n) e = subst T e tt

-- A number z below 0 is −(n + 1), where n is `mag z`: z + 1 is −n, and the size of z is n + 1. So no step from z to its size leaves the range
-- of z.
module _ (z : ℤ) (below : lt_z z (pos 0) ≡ true) where
  pub one_more : z +ℤ pos 1 ≡ neg_ℤ (pos (mag z))
  one_more = +ℤ_one z ∙ go z below
    where
      next : (n : ℕ) → suc_ℤ (negsuc n) ≡ neg_ℤ (pos n)
      next zero = refl
      next (suc n) = refl

      go : (z : ℤ) → lt_z z (pos 0) ≡ true → suc_ℤ z ≡ neg_ℤ (pos (mag z))
      go (pos n) e = let l : n < 0 = ltb-true n 0 e in absurd (omega arith)
      go (negsuc n) e = next n

  pub opposite_back : pos 0 -ℤ neg_ℤ (pos (mag z)) ≡ pos (mag z)
  opposite_back = rw (zero_minus (neg_ℤ (pos (mag z)))) (neg_ℤ-neg_ℤ (pos (mag z)))

  pub size_below : mag z + 1 ≡ nat_abs z
  size_below = go z below
    where
      go : (z : ℤ) → lt_z z (pos 0) ≡ true → mag z + 1 ≡ nat_abs z
      go (pos n) e = let l : n < 0 = ltb-true n 0 e in absurd (omega arith)
      go (negsuc n) e = omega arith

pub mag_neg_pos : (n : ℕ) → mag (neg_ℤ (pos n)) ≤ n
mag_neg_pos zero = omega arith
mag_neg_pos (suc n) = omega arith

pub difference_small : (a b n : ℕ) → a ≤ b + n → b ≤ n + 1 → mag (pos a -ℤ pos b) ≤ n
difference_small a zero n h k = omega arith
difference_small a (suc b) n h k = go (ltb a (suc b))
  where
    go : (t : Bool) → mag (cond t (negsuc (suc b - suc a)) (pos (a - suc b))) ≤ n
    go true = omega arith
    go false = omega arith

-- z lies from −n − 1 to n
pub mag_range : {n : ℕ} (z : ℤ) → mag z ≤ n → (negsuc n ≤ℤ z) × (z ≤ℤ pos n)
mag_range {n} (pos m) l = (record { le = tt }, record { le = le→leb m n l })
mag_range {n} (negsuc m) l = (record { le = le→leb m n l }, record { le = tt })
