-- The first of the numbers below n that passes a test. The laws are in `FirstLaws`.
use Rattle.std.specs.Prelude.{Bool, cond, ℕ, zero, suc}

-- n where none passes
unfoldable pub first_where : ℕ → (ℕ → Bool) → ℕ
first_where zero test = 0
first_where (suc n) test = cond (test 0) 0 (suc (first_where n (λ i. test (suc i))))
