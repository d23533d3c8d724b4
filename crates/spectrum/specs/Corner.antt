-- What the contracts of the transform of a corner say: a tile of side n of which only the first k rows and columns are not 0, and k is at
-- most half of n. The buffer is as long as the tile. The corner stands at its end, n rows of k words; k rows of n words are made of them at
-- its front, and do not reach them.
use Rattle.std.specs.Prelude.{◌≡◌, cond, ◌&&◌, List, ℕ, ◌+◌, ◌-◌, ◌*◌, ◌/◌, ◌%◌, ◌<◌, ◌≤◌, ltb, length, get_or}

-- where the n rows of k words begin that end a buffer of n * n words
abbrev pub corner_start : (n k : ℕ) → ℕ
corner_start n k = n * n - n * k

-- the word at row a, column b of a tile of side n whose first k rows and columns are the k by k words of xs from `at` on, and the rest 0
abbrev pub corner : (k at : ℕ) → List ℕ → (a b : ℕ) → ℕ
corner k at xs a b = cond (ltb a k && ltb b k) (get_or xs (at + (a * k + b)) 0) 0

-- the words of a buffer that holds a corner: they are at most c, and its rows from k on are 0
pub record Cornered (n k c : ℕ) (xs : List ℕ) : Type 0 where
  pub some : 0 < k
  pub small : 2 * k ≤ n
  pub whole : length xs ≡ n * n
  pub bound : (i : ℕ) → i < n * k → get_or xs (corner_start n k + i) 0 ≤ c
  pub empty : (i : ℕ) → k * k ≤ i → i < n * k → get_or xs (corner_start n k + i) 0 ≡ 0

-- what place p of k rows of n words takes from the n rows of k words at the end of xs: rows and columns change places
abbrev pub transposed_word : (n k : ℕ) → List ℕ → (p : ℕ) → ℕ
transposed_word n k xs p = get_or xs (corner_start n k + (p % n * k + p / n)) 0

-- the first k rows of ys are the columns of the n rows of k words at the end of xs; the other rows are 0
pub record Widened (n k : ℕ) (xs ys : List ℕ) : Type 0 where
  pub transposed : (r c : ℕ) → r < k → c < n → get_or ys (r * n + c) 0 ≡ get_or xs (corner_start n k + (c * k + r)) 0
  pub empty : (i : ℕ) → k * n ≤ i → i < n * n → get_or ys i 0 ≡ 0
