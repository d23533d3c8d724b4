-- Noise from the sealed seed: one draw, the seed after some draws, the value of a drawn seed, and what a call leaves. The laws are in
-- `DrawLaws` and `PeriodLaws`.
use Rattle.std.specs.Prelude.{ℕ, zero, suc, ◌+◌, ◌*◌, ◌/◌, ◌%◌, List, length, ℤ, pos, ◌-ℤ◌}
use Rattle.algebra.specs.Places.{table}

abbrev pub multiplier : ℕ
multiplier = 1664525

abbrev pub increment : ℕ
increment = 1013904223

-- how many seeds there are: the modulus of a draw
abbrev pub seed_count : ℕ
seed_count = 4294967296

-- One draw: the seed times the multiplier, plus the increment, keeping the remainder by the modulus. The modulus is a parameter, so that the
-- period can be stated for every power of 2.
unfoldable pub next_seed : (modulus seed : ℕ) → ℕ
next_seed modulus seed = (multiplier * seed + increment) % modulus

-- the seed after so many draws
unfoldable pub seed_after : (modulus draws seed : ℕ) → ℕ
seed_after modulus zero seed = seed
seed_after modulus (suc draws) seed = next_seed modulus (seed_after modulus draws seed)

-- the map value of a drawn seed: divided by 16,777,216, rounded down, less 128
unfoldable pub noise_value : ℕ → ℤ
noise_value seed = pos (seed / 16777216) -ℤ pos 128

-- What is left in `map`: at place 0 the value of the seed after one draw, at place 1 that of the seed after two, and so on to its end.
abbrev pub noise_left : (seed : ℕ) → List ℤ → List ℤ
noise_left seed map = table (length map) (λ place. noise_value (seed_after seed_count (suc place) seed))

-- the seed after as many draws as the map has places, which is the given seed where it has none
abbrev pub last_seed : (seed : ℕ) → List ℤ → ℕ
last_seed seed map = seed_after seed_count (length map) seed
