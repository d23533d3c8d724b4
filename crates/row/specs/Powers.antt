-- The root of a row of 256 words, and what the table of its powers says (02: E5). The laws are in `PowersLaws`.
use Rattle.std.specs.Prelude.{◌≡◌, List, ℕ, ◌+◌, ◌*◌, ◌%◌, ◌^◌, ◌<◌, length, get_or}

-- the root modulo F_4, which is 282
unfoldable pub row_root : ℕ
row_root = 3 ^ 256 % 65537

-- n powers of r modulo m, from 1 on: each is the one before it times r
pub record Powers (m r n : ℕ) (xs : List ℕ) : Type 0 where
  pub size : length xs ≡ n
  pub first : get_or xs 0 0 ≡ 1
  pub next : (k : ℕ) → k + 1 < n → get_or xs (k + 1) 0 ≡ (get_or xs k 0 * r) % m

-- the table of E5: the 256 powers of the root
abbrev pub RootPowers : List ℕ → Type 0
RootPowers = Powers 65537 row_root 256
