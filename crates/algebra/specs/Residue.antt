-- Residues of integers, and the signed value that a residue reads as. The laws are in `ResidueLaws`.
use Rattle.std.specs.Prelude.{cond, ℕ, suc, ◌-◌, ◌/◌, ◌%◌, leb, ℤ, pos, negsuc, ◌-ℤ◌, ◌+ℤ◌, ◌*ℤ◌, ◌≡◌}

-- z modulo m, from 0 up. An integer is `pos n`, which is n, or `negsuc n`, which is −(n + 1).
unfoldable pub residue : ℕ → ℤ → ℕ
residue m (pos n) = n % m
residue m (negsuc n) = m - suc (n % m)

-- The field is m. A residue up to half the field reads as itself, a larger one as itself less the field.
unfoldable pub signed : ℕ → ℕ → ℤ
signed m r = cond (leb r (m / 2)) (pos r) (pos r -ℤ pos m)

-- r represents z modulo m: z is r and a multiple of m.
pub record Represents (m : ℕ) (z : ℤ) (r : ℕ) : Type 0 where
  pub multiple : ℤ
  pub equation : z ≡ pos r +ℤ multiple *ℤ pos m
