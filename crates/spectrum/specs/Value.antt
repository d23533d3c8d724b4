-- Signed values as words, and back: the word of a value, and the value of a residue that has the offset added. The laws are in `ValueLaws`.
use Rattle.std.specs.Prelude.{ℕ, ◌+◌, ◌*◌, ◌/◌, ◌^◌, ◌≤◌, ℤ, pos, ◌-ℤ◌}
use Rattle.algebra.specs.Residue.{Represents}

-- w is a word for the value z modulo m
pub record Word (m : ℕ) (z : ℤ) (w : ℕ) : Type 0 where
  pub value : Represents m z w
  pub bound : w ≤ 2 * m

-- the offset: half of 2 ^ (2 ^ t), which is 32,768 in F_4 and 2,147,483,648 in F_5
abbrev pub offset_of : ℕ → ℕ
offset_of field = 2 ^ (2 ^ field) / 2

-- the value that a word stands for
abbrev pub less_offset : (offset word : ℕ) → ℤ
less_offset offset word = pos word -ℤ pos offset

-- that value fits 32 bits: it is at most 2^31 − 1, and at least −offset
abbrev pub Storable : (offset word : ℕ) → Type 0
Storable offset word = word ≤ offset + 2147483647
