-- Congruence modulo m. It is a record, so that m, a and b are found from a proof of it.
use Rattle.std.specs.Prelude.{◌≡◌, ℕ, ◌%◌}

-- a and b leave the same remainder by m
pub record Cong (m a b : ℕ) : Type 0 where
  pub same : a % m ≡ b % m
