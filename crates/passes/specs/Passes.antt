-- What the contracts of the passes say. A pass goes over an array in blocks of two halves, and in each block over pairs of rows, one of each half.
-- At level i the n rows of a transform are 2 ^ i blocks of n / 2 ^ i rows; a transform makes one pass at each level (02: E4).
use Rattle.std.specs.Prelude.{◌≡◌, List, ℕ, ◌+◌, ◌-◌, ◌*◌, ◌/◌, ◌^◌, ◌<◌, ◌≤◌, length, get_or}
use Rattle.std.specs.Int.Count.{count_trailing_zeros}
use Rattle.algebra.specs.Places.{Run}
use Rattle.passes.specs.Butterfly.{Step, Relation, StepMakes, Pairing}
use Rattle.passes.specs.Halving as Lanes

-- which way a transform goes
pub data Direction : Type 0 where
  Forward : Direction
  Inverse : Direction

-- the passes of a transform of length n: as many as n has trailing zero bits
abbrev pub passes : ℕ → ℕ
passes n = count_trailing_zeros 64 n

-- the butterflies of a direction
abbrev pub step_of : Direction → Step
step_of Forward = Step.Forward
step_of Inverse = Step.Inverse

-- the level of a pass: up from 0, so as many as the passes before it, or down to 0, so as many as the passes after it
abbrev pub level_of : Direction → (before after : ℕ) → ℕ
level_of Forward before after = before
level_of Inverse before after = after

-- s words are whole blocks of two halves
pub record WholeBlocks (s half : ℕ) : Type 0 where
  pub blocks : ℕ
  pub whole : s ≡ blocks * (2 * half)

-- in each of the blocks of two halves, R r holds of place r of the first half and place r of the second, before and after
pub record EachBlock (blocks half : ℕ) (R : ℕ → Relation) (x y : ℕ → ℕ) : Type 0 where
  pub pair : (q r : ℕ) → q < blocks → r < half
      → R r (x (q * (2 * half) + r)) (x (q * (2 * half) + (half + r))) (y (q * (2 * half) + r)) (y (q * (2 * half) + (half + r)))

-- what a stage makes of place i of each half
abbrev pub StagePair : Step → (b c unit rows lanes : ℕ) → ℕ → Relation
StagePair step b c unit rows lanes i = Pairing (StepMakes step b c (unit * (i / lanes))) (Run 0 (rows * lanes) i)

-- a pass: a stage in each block. The halves are counted in words, of which row r has those from r * lanes on
pub record Passed (step : Step) (b c unit rows lanes half : ℕ) (xs ys : List ℕ) : Type 0 where
  pub stages : (blocks : ℕ) → length xs ≡ blocks * (2 * half)
      → EachBlock blocks half (StagePair step b c unit rows lanes) (λ i. get_or xs i 0) (λ i. get_or ys i 0)

-- the sizes of a buffer of s words: n rows, a power of 2 that is the period of 2 ^ unit modulo 2 ^ b + 1, and room for the bound c to double in
-- every pass
pub record Grid (s n lanes unit b c : ℕ) : Type 0 where
  pub whole : s ≡ n * lanes
  pub power : n ≡ 2 ^ passes n
  pub short : passes n ≤ 6
  pub period : unit * n ≡ 2 * b
  pub room : c * n < 9223372036854775808

-- the butterflies that a direction leaves out, those of rows from `filled` on: forward, such rows are 0; inverse, there are none
abbrev pub Pruned : Direction → (n filled lanes : ℕ) → List ℕ → Type 0
Pruned Forward n filled lanes xs = Lanes.Filled filled lanes xs
Pruned Inverse n filled lanes xs = n ≤ filled

-- the transforms of the lanes: at the root 2 ^ unit, or at its inverse
abbrev pub Transformed : Direction → (b unit l lanes : ℕ) → List ℕ → List ℕ → Type 0
Transformed Forward b unit = Lanes.Forward (2 ^ b + 1) (2 ^ unit)
Transformed Inverse b unit = Lanes.Inverse (2 ^ b + 1) ((2 ^ (b - 1) + 1) ^ unit)
