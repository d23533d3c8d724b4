-- The rings modulo the Fermat numbers, by their exponent t: t = 4 is F_4 = 65,537 and t = 5 is F_5 = 4,294,967,297 (01: field).
-- F_5 is composite; nothing here or in the laws asks for a prime.
use Rattle.std.specs.Prelude.{ℕ, ◌+◌, ◌-◌, ◌^◌}

-- F_t
abbrev pub modulus : ℕ → ℕ
modulus t = 2 ^ (2 ^ t) + 1

-- N, the length of a transform: 32 in F_4, 64 in F_5
abbrev pub transform_length : ℕ → ℕ
transform_length t = 2 ^ (t + 1)

-- the inverse of 2: 32,769 in F_4, 2,147,483,649 in F_5
abbrev pub inverse_of_two : ℕ → ℕ
inverse_of_two t = 2 ^ (2 ^ t - 1) + 1

-- 1/N: 63,489 in F_4, 4,227,858,433 in F_5
abbrev pub scale : ℕ → ℕ
scale t = 2 ^ (2 ^ t) + 1 - 2 ^ (2 ^ t - (t + 1))
