-- The order of words in a buffer: indices with their bits in reverse order, rows and columns, and lists whose words have changed places.
use Rattle.std.specs.Prelude.{◌≡◌, List, ℕ, zero, suc, ◌+◌, ◌*◌, ◌/◌, ◌%◌, ◌^◌, ◌≤◌, ◌<◌, min, length, get_or}
use Rattle.algebra.specs.Places.{Written}

-- the index k below 2 ^ l with its l bits in reverse order
unfoldable pub reversed : ℕ → ℕ → ℕ
reversed zero k = 0
reversed (suc l) k = reversed l (k / 2) + (k % 2) * 2 ^ l

-- in n rows of n words, the place that changes places with p where rows and columns do
abbrev pub across : ℕ → ℕ → ℕ
across n p = p % n * n + p / n

-- ys holds at each place p what xs holds at place s p
abbrev pub Permuted : (ℕ → ℕ) → List ℕ → List ℕ → Type 0
Permuted s xs ys = (p : ℕ) → p < length xs → get_or ys p 0 ≡ get_or xs (s p) 0

-- s sends each index below n to one below n, and back
pub record Involution (n : ℕ) (s : ℕ → ℕ) : Type 0 where
  pub within : (p : ℕ) → p < n → s p < n
  pub twice : (p : ℕ) → p < n → s (s p) ≡ p

-- the lower of p and s p is from a up to b, b not included
abbrev pub LowerIn : (ℕ → ℕ) → ℕ → ℕ → ℕ → Type 0
LowerIn s a b p = (a ≤ min p (s p)) × (min p (s p) < b)

-- ys is xs with the words at p and s p in each other's place where the lower of the two indices is from a up to b
abbrev pub Exchanged : (ℕ → ℕ) → ℕ → ℕ → List ℕ → List ℕ → Type 0
Exchanged s a b xs ys = Written 0 (LowerIn s a b) (λ p. get_or xs (s p) 0) xs ys
