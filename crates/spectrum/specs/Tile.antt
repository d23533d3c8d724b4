-- What the contracts of the transforms of a tile say: n rows of n words, columns first, then rows.
use Rattle.std.specs.Prelude.{◌≡◌, List, ℕ, ◌+◌, ◌-◌, ◌*◌, ◌/◌, ◌%◌, ◌^◌, ◌<◌, ◌≤◌, get_or}
use Rattle.algebra.specs.Congruence.{Cong}
use Rattle.fermat.specs.Field.{modulus, transform_length}
use Rattle.fermat.specs.Transform.{power_sum2}
use Rattle.passes.specs.Order.{reversed}
use Rattle.passes.specs.Halving.{word}
use Rattle.passes.specs.Passes.{Direction, Forward, Inverse}

-- the words of ys from `at` on hold the transform of x at the root w, modulo m. The entry of row frequency k and column frequency i
-- stands at row i and column k, both in bit-reversed order: rows and columns have changed places, and are not put back.
-- It is a record, so that the numbers, x and ys are found from a proof of it
pub record TileForward (m w l n : ℕ) (x : ℕ → ℕ → ℕ) (at : ℕ) (ys : List ℕ) : Type 0 where
  pub entries : (k i : ℕ) → k < 2 ^ l → i < 2 ^ l → Cong m (get_or ys (at + (reversed l i * n + reversed l k)) 0) (power_sum2 (2 ^ l) w x k i)

-- the same in the field of exponent t, at its root 2
abbrev pub Spectrum : ℕ → (ℕ → ℕ → ℕ) → ℕ → List ℕ → Type 0
Spectrum t = TileForward (modulus t) 2 (t + 1) (transform_length t)

-- from that order back to rows and columns in their own
abbrev pub TileInverse : (m v l n : ℕ) → List ℕ → List ℕ → Type 0
TileInverse m v l n xs ys =
    (r j : ℕ) → r < 2 ^ l → j < 2 ^ l
    → Cong m (word n r j ys) (power_sum2 (2 ^ l) v (λ k i. word n (reversed l i) (reversed l k) xs) r j)

-- either direction, at the root 2 or its inverse modulo 2 ^ b + 1
abbrev pub TileTransformed : Direction → (b l n : ℕ) → List ℕ → List ℕ → Type 0
TileTransformed Forward b l n xs ys = TileForward (2 ^ b + 1) 2 l n (λ r j. word n r j xs) 0 ys
TileTransformed Inverse b l n xs ys = TileInverse (2 ^ b + 1) (2 ^ (b - 1) + 1) l n xs ys

-- xs holds the transform of a tile z; then ys holds the words of z as residues, with half of 2 ^ (2 ^ t) added
abbrev pub Recovered : ℕ → List ℕ → List ℕ → Type 0
Recovered t xs ys =
    (z : ℕ → ℕ → ℕ) → Spectrum t z 0 xs → (r j : ℕ) → r < transform_length t → j < transform_length t
    → word (transform_length t) r j ys ≡ (z r j + 2 ^ (2 ^ t) / 2) % modulus t

-- the sizes of a tile of s words: its side is the length of the transform at 2, and there is room for both transforms
pub record Square (s n l b c : ℕ) : Type 0 where
  pub whole : s ≡ n * n
  pub side : n ≡ 2 ^ l
  pub halvings : l ≤ 6
  pub period : n ≡ 2 * b
  pub room : c * 2 ^ l * 2 ^ l < 9223372036854775808
