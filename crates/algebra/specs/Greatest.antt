-- The greatest of finitely many natural numbers, and the first place where it stands. The laws are in `GreatestLaws`.
use Rattle.std.specs.Prelude.{ℕ, zero, suc, max, eqb}
use Rattle.algebra.specs.First.{first_where}

-- the greatest of f 0, f 1, .., f (n − 1); 0 where there is none
unfoldable pub greatest : ℕ → (ℕ → ℕ) → ℕ
greatest zero f = 0
greatest (suc n) f = max (greatest n f) (f n)

-- the first place where it stands; 0 where there is none
unfoldable pub first_greatest : ℕ → (ℕ → ℕ) → ℕ
first_greatest n f = first_where n (λ i. eqb (f i) (greatest n f))
