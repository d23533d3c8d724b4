-- The total of terms that calls of a function give. `gives j value` says that a call at the place j may give this value.
use Rattle.std.specs.Prelude.{◌≡◌, ℕ, ◌*◌, ◌<◌, ◌≤◌, ℤ, pos, nat_abs}
use Rattle.algebra.specs.Sum.{sum_z}

-- what is given at each place from `from` up to `to` has this property
abbrev pub Gives : (gives : ℕ → ℤ → Type 0) (from to : ℕ) (P : ℕ → ℤ → Type 0) → Type 0
Gives gives from to P = (j : ℕ) (value : ℤ) → from ≤ j → j < to → gives j value → P j value

-- `total` is the sum of what is given at the places from `from` up to `to`: of any terms that are what is given there, and 0 before
pub record TotalOf (gives : ℕ → ℤ → Type 0) (from to : ℕ) (total : ℤ) : Type 0 where
  pub is : (term : ℕ → ℤ) → Gives gives from to (λ j value. value ≡ term j) → ((j : ℕ) → j < from → term j ≡ pos 0) → total ≡ sum_z to term
  pub small : (most : ℕ) → Gives gives from to (λ j value. nat_abs value ≤ most) → nat_abs total ≤ to * most
