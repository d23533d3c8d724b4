-- What the contracts of the butterflies say. While a transform runs, its words are congruent to residues modulo 2 ^ b + 1 and at most
-- a bound; nothing is reduced. Differences are stated without a minus sign: z is (u − v) s where z + v s is u s.
use Rattle.std.specs.Prelude.{◌≡◌, List, ℕ, ◌+◌, ◌-◌, ◌*◌, ◌/◌, ◌^◌, ◌<◌, ◌≤◌, get_or, length}
use Rattle.algebra.specs.Congruence.{Cong}
use Rattle.algebra.specs.Places.{Run}

-- the kinds of butterflies: of u and v and a power p of 2, the plain one makes u + v and u − v, the forward one u + v and (u − v) p, the inverse
-- one u + v / p and u − v / p
pub data Step : Type 0 where
  Plain : Step
  Forward : Step
  Inverse : Step

-- c is a multiple of the modulus 2 ^ b + 1, above 0
pub record Multiple (b c : ℕ) : Type 0 where
  pub bits_low : 0 < b
  pub bits_high : b ≤ 32
  pub times : ℕ
  pub some : 0 < times
  pub is : c ≡ times * (2 ^ b + 1)

-- c bounds the words: twice a multiple of the modulus, so that adding c or its half keeps a difference from going below 0
pub record Bound (b c : ℕ) : Type 0 where
  pub even : c ≡ 2 * (c / 2)
  pub halved : Multiple b (c / 2)
  pub fits : c < 9223372036854775808

-- r is d 2 ^ t
pub record TimesPower (b c d t r : ℕ) : Type 0 where
  pub value : Cong (2 ^ b + 1) r (d * 2 ^ t)
  pub bound : r ≤ c + 2 ^ b

-- what holds of the words of a pair before and after a butterfly
abbrev pub Relation : Type 1
Relation = ℕ → ℕ → ℕ → ℕ → Type 0

-- y and z are u + v and (u − v) s modulo m, both at most e
pub record Parted (m e s u v y z : ℕ) : Type 0 where
  pub plus : Cong m y (u + v)
  pub minus : Cong m (z + v * s) (u * s)
  pub low : y ≤ e
  pub high : z ≤ e

-- y and z are u − v s and u + v s modulo m, both at most e
pub record Joined (m e s u v y z : ℕ) : Type 0 where
  pub minus : Cong m (y + v * s) u
  pub plus : Cong m z (u + v * s)
  pub low : y ≤ e
  pub high : z ≤ e

-- what a step with the power 2 ^ t makes of words that are at most c. 2 ^ (b − t) is −1 / 2 ^ t
abbrev pub StepMakes : Step → ℕ → ℕ → ℕ → Relation
StepMakes Plain b c t = Parted (2 ^ b + 1) (2 * c) 1
StepMakes Forward b c t = Parted (2 ^ b + 1) (2 * c) (2 ^ t)
StepMakes Inverse b c t = Joined (2 ^ b + 1) (2 * c) (2 ^ (b - t))

-- the powers 2 ^ t that a step takes
abbrev pub TakesPower : Step → ℕ → ℕ → Type 0
TakesPower Plain b t = t < b
TakesPower Forward b t = t < b
TakesPower Inverse b t = (0 < t) × (t < b)

-- the words u and v are as they were
pub record Same (u v y z : ℕ) : Type 0 where
  pub first : y ≡ u
  pub second : z ≡ v

-- the words at i and half + i, of a list of two halves
pub record Pairing (R : Relation) (P : Type 0) (u v y z : ℕ) : Type 0 where
  pub here : P → R u v y z
  pub kept : (P → ⊥) → Same u v y z

-- ys is xs with the words at i and half + i changed as R i says where i is in P, and as they were elsewhere
abbrev pub Paired : (ℕ → Relation) → (ℕ → Type 0) → ℕ → List ℕ → List ℕ → Type 0
Paired R P half xs ys = (i : ℕ) → i < half → Pairing (R i) (P i) (get_or xs i 0) (get_or xs (half + i) 0) (get_or ys i 0) (get_or ys (half + i) 0)

-- the words of each pair of P are at most c
abbrev pub PairsAtMost : ℕ → (ℕ → Type 0) → ℕ → List ℕ → Type 0
PairsAtMost c P half xs = (i : ℕ) → P i → (get_or xs i 0 ≤ c) × (get_or xs (half + i) 0 ≤ c)

-- every word is at most c
abbrev pub AtMost : ℕ → List ℕ → Type 0
AtMost c xs = (i : ℕ) → i < length xs → get_or xs i 0 ≤ c

-- a stage over the first rows of each half, `lanes` words each: row r has the power 2 ^ (unit r)
abbrev pub Staged : Step → (b c unit rows lanes half : ℕ) → List ℕ → List ℕ → Type 0
Staged step b c unit rows lanes half xs ys = Paired (λ i. StepMakes step b c (unit * (i / lanes))) (Run 0 (rows * lanes)) half xs ys

-- the sizes of a stage: its rows lie in each half, and their powers stay below b
pub record StageSizes (n rows lanes half unit b : ℕ) : Type 0 where
  pub whole : n ≡ 2 * half
  pub inside : rows * lanes ≤ half
  pub some : 0 < rows
  pub step : 0 < unit
  pub turns : unit * rows ≤ b
