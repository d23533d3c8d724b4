-- The transform and its inverse, in one direction and over a tile, and the circular convolution (01: Field and tile).
-- They are over functions of the index, so that rows, columns and lanes share one law.
use Rattle.std.specs.Prelude.{ℕ, ◌+◌, ◌-◌, ◌*◌, ◌%◌, ◌^◌}
use Rattle.algebra.specs.Sum.{sum}
use Rattle.fermat.specs.Field.{modulus, transform_length, inverse_of_two, scale}

-- the sum over j < n of x[j] times w to the power jk
unfoldable pub power_sum : (n w : ℕ) → (ℕ → ℕ) → ℕ → ℕ
power_sum n w x k = sum n (λ j. x j * w ^ (j * k))

-- over n rows of n: rows, then columns
unfoldable pub power_sum2 : (n w : ℕ) → (ℕ → ℕ → ℕ) → ℕ → ℕ → ℕ
power_sum2 n w x k l = power_sum n w (λ i. power_sum n w (x i) l) k

-- the transform of x at k, of length n at the root w, modulo m
unfoldable pub transform_at : (m n w : ℕ) → (ℕ → ℕ) → ℕ → ℕ
transform_at m n w x k = power_sum n w x k % m

-- its inverse at j: v is the inverse of the root, s that of the length
unfoldable pub inverse_at : (m n v s : ℕ) → (ℕ → ℕ) → ℕ → ℕ
inverse_at m n v s x j = (s * power_sum n v x j) % m

-- the same over a tile
unfoldable pub transform2_at : (m n w : ℕ) → (ℕ → ℕ → ℕ) → ℕ → ℕ → ℕ
transform2_at m n w x k l = power_sum2 n w x k l % m

unfoldable pub inverse2_at : (m n v s : ℕ) → (ℕ → ℕ → ℕ) → ℕ → ℕ → ℕ
inverse2_at m n v s x i j = (s * s * power_sum2 n v x i j) % m

-- in the field of exponent t: the root is 2
abbrev pub transform_in : ℕ → (ℕ → ℕ) → ℕ → ℕ
transform_in t = transform_at (modulus t) (transform_length t) 2

abbrev pub inverse_in : ℕ → (ℕ → ℕ) → ℕ → ℕ
inverse_in t = inverse_at (modulus t) (transform_length t) (inverse_of_two t) (scale t)

-- the circular convolution of x and y at j
unfoldable pub circular : (n : ℕ) → (x y : ℕ → ℕ) → ℕ → ℕ
circular n x y j = sum n (λ i. x i * y ((j + n - i) % n))

-- the same over a tile
unfoldable pub circular2 : (n : ℕ) → (x y : ℕ → ℕ → ℕ) → ℕ → ℕ → ℕ
circular2 n x y i j = sum n (λ p. sum n (λ q. x p q * y ((i + n - p) % n) ((j + n - q) % n)))
