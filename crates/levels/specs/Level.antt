-- The level of an output: divided by 2^shift to the nearest whole number, halves going away from zero, then clamped to −B and B.
-- The laws are in `LevelLaws`.
use Rattle.std.specs.Prelude.{Bool, cond, ℕ, suc, ◌+◌, ◌*◌, ◌/◌, ◌%◌, ◌^◌, leb, ℤ, pos, negsuc, neg_ℤ}
use Rattle.std.specs.Int.Signed.{lt_z}

-- a remainder is half of the divisor or more
unfoldable pub half_or_more : (divisor remainder : ℕ) → Bool
half_or_more divisor remainder = leb divisor (2 * remainder)

-- A size n divided by 2^shift: the quotient, and one more where the remainder is half of 2^shift or more.
unfoldable pub nearest : (shift n : ℕ) → ℕ
nearest shift n = n / 2 ^ shift + cond (half_or_more (2 ^ shift) (n % 2 ^ shift)) 1 0

-- The size of a value is divided and its sign kept, so that halves go away from zero. `pos n` is n, `negsuc n` is −(n + 1).
unfoldable pub divided : (shift : ℕ) → ℤ → ℤ
divided shift (pos n) = pos (nearest shift n)
divided shift (negsuc n) = neg_ℤ (pos (nearest shift (suc n)))

-- z, but −B where it is below −B, and B where it is above B
unfoldable pub clamp : (bound : ℕ) → ℤ → ℤ
clamp bound z = cond (lt_z z (neg_ℤ (pos bound))) (neg_ℤ (pos bound)) (cond (lt_z (pos bound) z) (pos bound) z)

unfoldable pub level : (shift bound : ℕ) → ℤ → ℤ
level shift bound value = clamp bound (divided shift value)
