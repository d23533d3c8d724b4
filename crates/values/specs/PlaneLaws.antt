-- Planes of h by w places, each divided into D by A parts that are counted plane by plane and row by row: how many places lie in the parts before one
-- of them. It rests on the law of numbers of two digits, taken twice.
use Rattle.std.specs.Prelude.{◌≡◌, ℕ, suc, ◌+◌, ◌*◌, ◌-◌, ◌/◌, ◌%◌, ◌<◌, ◌≤◌, ltb}
use Rattle.std.proofs.Common.{ap, ◌∙◌, add-mul, suc-mul, arith}
use Rattle.algebra.specs.Counted.{counted}
use Rattle.algebra.specs.CountedLaws.{counted_below, counted_between, counted_digits}

-- R and C tell the row and the column of parts that a row and a column of places lie in
module _ (planes h w D A : ℕ) (R C : ℕ → ℕ) (row : (r : ℕ) → r < h → R r < D) (column : (e : ℕ) → e < w → C e < A) where
  abbrev rows_before : ℕ → ℕ
  rows_before i = counted h (λ r. ltb (R r) i)

  abbrev columns_before : ℕ → ℕ
  columns_before j = counted w (λ e. ltb (C e) j)

  -- rows of all planes, in rows of parts
  abbrev line_of : ℕ → ℕ
  line_of q = q / h * D + R (q % h)

  abbrev lines_before : ℕ → ℕ
  lines_before x = counted (planes * h) (λ q. ltb (line_of q) x)

  lines_before_lem : (k i : ℕ) → k < planes → i ≤ D → lines_before (k * D + i) ≡ k * h + rows_before i
  lines_before_lem k i plane part =
      let here : counted planes (λ m. ltb m k) ≡ k = counted_below planes k ∙ omega arith in
      let next : counted planes (λ m. ltb m (suc k)) ≡ suc k = counted_below planes (suc k) ∙ omega arith in
      omega (arith, suc-mul k (rows_before i), rw (here, next) at (counted_digits h D k i R part row planes (λ m. m)))

  -- all places of the planes before, all rows that lie in rows of parts before, and of the row of parts the columns before
  pub places_before : (k i j : ℕ) → k < planes → i < D → j ≤ A
      → counted (planes * h * w) (λ p. ltb ((p / w / h * D + R (p / w % h)) * A + C (p % w)) ((k * D + i) * A + j))
      ≡ (k * h + rows_before i) * w + (rows_before (suc i) - rows_before i) * columns_before j
  places_before k i j plane part fits =
      let line : lines_before (k * D + i) ≡ k * h + rows_before i = lines_before_lem k i plane (omega arith) in
      let through : lines_before (suc (k * D + i)) ≡ k * h + rows_before (suc i) = ap lines_before (omega arith) ∙ lines_before_lem k (suc i) plane part in
      let more = counted_between h R i (suc i) (omega arith) in
      let held : lines_before (suc (k * D + i)) ≡ k * h + rows_before i + (rows_before (suc i) - rows_before i) = omega (arith, through, more) in
      omega (
        arith,
        add-mul (k * h + rows_before i) (rows_before (suc i) - rows_before i) (columns_before j),
        rw (line, held) at (counted_digits w A (k * D + i) j C fits column (planes * h) line_of),
      )
