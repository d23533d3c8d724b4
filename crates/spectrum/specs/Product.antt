-- What the contracts between the forward and the inverse transform say: products of words that are not reduced, their sums brought down
-- to the bound that the inverse starts from, and the residues that come out of it. t is the number of the field, 4 or 5.
use Rattle.std.specs.Prelude.{◌≡◌, cond, List, ℕ, ◌+◌, ◌-◌, ◌*◌, ◌/◌, ◌%◌, ◌^◌, ◌<◌, ◌≤◌, eqb, get_or}
use Rattle.algebra.specs.Congruence.{Cong}
use Rattle.fermat.specs.Field.{modulus, transform_length, scale}

-- a word of a transformed tile is at most this, and one of a transformed row of 256 too: loaded words are at most twice the modulus, and both transforms multiply that by N
abbrev pub factor_most : ℕ → ℕ
factor_most t = 2 * modulus t * transform_length t * transform_length t

-- a product of two such words is at most this
abbrev pub product_most : ℕ → ℕ
product_most t = cond (eqb t 4) 18014948269490176 70377401237505

-- r is a c modulo the field
pub record Product (t a c r : ℕ) : Type 0 where
  pub value : Cong (modulus t) r (a * c)
  pub bound : r ≤ product_most t

-- what an inverse transform starts from
abbrev pub settled_most : ℕ → ℕ
settled_most t = 4 * modulus t

-- r is v modulo the field, brought down to that
pub record Settled (t v r : ℕ) : Type 0 where
  pub value : Cong (modulus t) r v
  pub bound : r ≤ settled_most t

-- what it leaves
abbrev pub inverse_most : ℕ → ℕ
inverse_most t = settled_most t * transform_length t * transform_length t

-- v can be finished: at most 4 (2 ^ b + 1) 2 ^ r, where 2 ^ r is N² for a tile
pub record Reducible (b r v : ℕ) : Type 0 where
  pub bits_low : 4 ≤ b
  pub bits_high : b ≤ 32
  pub rest : r ≤ b
  pub bound : v ≤ 4 * (2 ^ b + 1) * 2 ^ r

-- z is −v 2 ^ (b − r) and half of 2 ^ b, a residue
pub record OffsetResidue (b r v z : ℕ) : Type 0 where
  pub below : z < 2 ^ b + 1
  pub value : Cong (2 ^ b + 1) (z + v * 2 ^ (b - r)) (2 ^ b / 2)

-- v / N² and half of 2 ^ (2 ^ t), as a residue
abbrev pub offset_residue : ℕ → ℕ → ℕ
offset_residue t v = (scale t * scale t * v + 2 ^ (2 ^ t) / 2) % modulus t

-- the first `count` words become sums: each the word itself and the product of the words `count` and twice `count` further on
pub record Accumulated (t count : ℕ) (xs ys : List ℕ) : Type 0 where
  pub sum : (i : ℕ) → i < count → Cong (modulus t) (get_or ys i 0) (get_or xs i 0 + get_or xs (count + i) 0 * get_or xs (count + (count + i)) 0)
  pub bound : (i : ℕ) → i < count → get_or ys i 0 ≤ get_or xs i 0 + product_most t
  pub kept : (i : ℕ) → count ≤ i → get_or ys i 0 ≡ get_or xs i 0
