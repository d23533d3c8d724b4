-- A quotient rounded up. The laws are in `NumberLaws`.
use Rattle.std.specs.Prelude.{ℕ, ◌+◌, ◌-◌, ◌/◌}

-- ⌈n / d⌉
unfoldable pub ceiling_div : (n d : ℕ) → ℕ
ceiling_div n d = (n + d - 1) / d
