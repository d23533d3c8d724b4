-- Sizes of integers. The size of z is `nat_abs z` of `lib.IntN`. Here are the sizes of negations and products, and bounds on the sizes
-- of sums. It rests on the definitions of the two sums.
use Rattle.std.specs.Prelude.{◌≡◌, refl, Bool, true, false, cond, ℕ, zero, suc, ◌+◌, ◌*◌, ◌-◌, ◌≤◌, ◌<◌, ltb, ℤ, pos, negsuc, neg_ℤ, nat_abs, ◌+ℤ◌, ◌*ℤ◌}
use Rattle.std.proofs.Common.{arith}
use Rattle.algebra.specs.Sum.{sum, sum_z}
use Rattle.algebra.specs.SumLaws.{sum_last, sum_z_none, sum_z_last}

pub size_neg : (z : ℤ) → nat_abs (neg_ℤ z) ≡ nat_abs z
size_neg (pos zero) = refl
size_neg (pos (suc n)) = refl
size_neg (negsuc n) = refl

pub size_mul : (x y : ℤ) → nat_abs (x *ℤ y) ≡ nat_abs x * nat_abs y
size_mul (pos a) (pos b) = refl
size_mul (pos a) (negsuc b) = size_neg (pos (a * suc b))
size_mul (negsuc a) (pos b) = size_neg (pos (suc a * b))
size_mul (negsuc a) (negsuc b) = refl

-- the size of a − (b + 1), in either of its forms
mixed : (t : Bool) (a b : ℕ) → nat_abs (cond t (negsuc (suc b - suc a)) (pos (a - suc b))) ≤ a + suc b
mixed true a b = omega arith
mixed false a b = omega arith

pub size_add : (x y : ℤ) → nat_abs (x +ℤ y) ≤ nat_abs x + nat_abs y
size_add (pos a) (pos b) = omega arith
size_add (pos a) (negsuc b) = mixed (ltb a (suc b)) a b
size_add (negsuc a) (pos b) = omega (arith, mixed (ltb b (suc a)) b a)
size_add (negsuc a) (negsuc b) = omega arith

-- Where each summand's size is at most A times a bound g, the sum's size is at most A times the sum of those bounds. Applied to its own
-- result, it bounds a sum of sums.
pub size_sum_le : (n A : ℕ) (f : ℕ → ℤ) (g : ℕ → ℕ) → ((i : ℕ) → i < n → nat_abs (f i) ≤ A * g i) → nat_abs (sum_z n f) ≤ A * sum n g
size_sum_le zero A f g h = rw (sum_z_none f) (omega arith)
size_sum_le (suc n) A f g h = rw (sum_z_last n f, sum_last n g)
    (omega (arith, size_add (sum_z n f) (f n), size_sum_le n A f g (λ i l. h i (omega arith)), h n (omega arith)))
