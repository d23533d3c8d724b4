-- Planes one after the other in a flat list: A rows of B values each. The laws are in `PlanesLaws`.
use Rattle.std.specs.Prelude.{List, ℕ, ◌+◌, ◌*◌, ◌/◌, ◌%◌, ℤ, pos, get_or}
use Rattle.algebra.specs.Places.{table}

-- the value at row i, column j of plane k
abbrev pub cell : (A B : ℕ) → List ℤ → (k i j : ℕ) → ℤ
cell A B values k i j = get_or values ((k * A + i) * B + j) (pos 0)

-- the value at the flat place p of planes of A rows of B values
abbrev pub stacked_at : {Value : Type 0} → (A B : ℕ) → (ℕ → ℕ → ℕ → Value) → ℕ → Value
stacked_at A B value p = value (p / (A * B)) (p % (A * B) / B) (p % (A * B) % B)

abbrev pub stacked : (planes A B : ℕ) → (ℕ → ℕ → ℕ → ℤ) → List ℤ
stacked planes A B value = table (planes * (A * B)) (stacked_at A B value)
