-- What the contracts of the transform pair of 256 words say: 16 rows of 16, at the root of `Powers`, modulo F_4. It rests on the
-- sums of fermat, the bit-reversed order of passes, and the words that are brought down of spectrum.
use Rattle.std.specs.Prelude.{◌≡◌, List, ℕ, ◌+◌, ◌*◌, ◌%◌, ◌^◌, ◌<◌, get_or}
use Rattle.algebra.specs.Congruence.{Cong}
use Rattle.fermat.specs.Field.{modulus}
use Rattle.fermat.specs.Transform.{power_sum}
use Rattle.passes.specs.Order.{reversed}
use Rattle.passes.specs.Halving.{word}
use Rattle.spectrum.specs.Product.{Settled}
use Rattle.spectrum.specs.Value.{offset_of}
use Rattle.row.specs.Powers.{row_root}

-- the frequency that stands in row r, or in column r
abbrev pub frequency_of : ℕ → ℕ
frequency_of r = 11 * reversed 4 r % 16

-- powers of the root with the exponents 0, step, 2 step ..
pub record Factors (step : ℕ) (xs : List ℕ) : Type 0 where
  pub value : (j : ℕ) → j < 16 → Cong (modulus 4) (get_or xs j 0) (row_root ^ (j * step))
  pub below : (j : ℕ) → j < 16 → get_or xs j 0 < modulus 4

-- 16 words, each times its factor and brought down
abbrev pub Multiplied : (factors xs ys : List ℕ) → Type 0
Multiplied factors xs ys = (j : ℕ) → j < 16 → Settled 4 (get_or xs j 0 * get_or factors j 0) (get_or ys j 0)

-- the words of the first rows, each times the power of its row's frequency and its column
abbrev pub Twisted : (unit rows : ℕ) → List ℕ → List ℕ → Type 0
Twisted unit rows xs ys =
    (r j : ℕ) → r < rows → j < 16 → Settled 4 (word 16 r j xs * row_root ^ (j * (unit * frequency_of r))) (word 16 r j ys)

-- the 256 words of ys from `at` on hold the transform of x: in row l and column k, both in bit-reversed order, stands the entry whose frequency is
-- that of column k and 16 times that of row l
pub record RowSpectrum (x : ℕ → ℕ) (at : ℕ) (ys : List ℕ) : Type 0 where
  pub entry : (l k : ℕ) → l < 16 → k < 16
      → Cong (modulus 4) (get_or ys (at + (l * 16 + k)) 0) (power_sum 256 row_root x (frequency_of k + 16 * frequency_of l))

-- xs holds the transform of x; then ys holds x as residues, with the offset added
abbrev pub RowRecovered : List ℕ → List ℕ → Type 0
RowRecovered xs ys = (x : ℕ → ℕ) → RowSpectrum x 0 xs → (n : ℕ) → n < 256 → get_or ys n 0 ≡ (x n + offset_of 4) % modulus 4
