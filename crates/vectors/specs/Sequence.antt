-- The fixed sequence that the program `cases` draws its numbers from, and the map values and weights that are drawn.
use Rattle.std.specs.Prelude.{List, ℕ, zero, suc, ◌+◌, ◌*◌, ◌%◌, ℤ, pos, ◌-ℤ◌, length}
use Rattle.algebra.specs.Places.{table}

-- the next number of the sequence, below 2^31
abbrev pub next_number : ℕ → ℕ
next_number seed = (seed % 2147483648 * 1103515245 + 12345) % 2147483648

-- the number after so many steps, the seed after none
unfoldable pub number_after : (steps seed : ℕ) → ℕ
number_after zero seed = seed
number_after (suc steps) seed = next_number (number_after steps seed)

-- a number as a value from −peak to peak
abbrev pub value_of : (peak number : ℕ) → ℤ
value_of peak number = pos (number % (2 * peak + 1)) -ℤ pos peak

-- what is left in `values`: at place 0 the value of the number after one step, at place 1 that of the number after two, and so on
abbrev pub values_drawn : (peak seed : ℕ) → List ℤ → List ℤ
values_drawn peak seed values = table (length values) (λ place. value_of peak (number_after (suc place) seed))
