-- How many of the numbers below n pass a test. The laws are in `CountedLaws`.
use Rattle.std.specs.Prelude.{Bool, cond, ℕ}
use Rattle.algebra.specs.Sum.{sum}

abbrev pub counted : ℕ → (ℕ → Bool) → ℕ
counted n test = sum n (λ i. cond (test i) 1 0)
