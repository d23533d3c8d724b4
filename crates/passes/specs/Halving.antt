-- What the transforms of lanes leave. A buffer holds 2 ^ l rows of `lanes` words; each lane is a transform of its own.
-- The forward transform leaves the entry of frequency k in the row whose index has the bits of k in reverse order; the inverse takes
-- rows in that order and leaves them in their own.
use Rattle.std.specs.Prelude.{◌≡◌, List, ℕ, ◌+◌, ◌*◌, ◌^◌, ◌<◌, ◌≤◌, get_or, length}
use Rattle.algebra.specs.Congruence.{Cong}
use Rattle.fermat.specs.Transform.{power_sum}
use Rattle.passes.specs.Order.{reversed}

-- the word of row r, lane j
abbrev pub word : ℕ → ℕ → ℕ → List ℕ → ℕ
word lanes r j xs = get_or xs (r * lanes + j) 0

-- ys holds the transforms of the lanes of xs at the root w, modulo m
abbrev pub Forward : (m w l lanes : ℕ) → List ℕ → List ℕ → Type 0
Forward m w l lanes xs ys =
    (k j : ℕ) → k < 2 ^ l → j < lanes → Cong m (word lanes (reversed l k) j ys) (power_sum (2 ^ l) w (λ i. word lanes i j xs) k)

-- the same from rows in reverse order to rows in order
abbrev pub Inverse : (m v l lanes : ℕ) → List ℕ → List ℕ → Type 0
Inverse m v l lanes xs ys =
    (k j : ℕ) → k < 2 ^ l → j < lanes → Cong m (word lanes k j ys) (power_sum (2 ^ l) v (λ i. word lanes (reversed l i) j xs) k)

-- the rows from `filled` on are 0
pub record Filled (filled lanes : ℕ) (xs : List ℕ) : Type 0 where
  pub some : 0 < filled
  pub empty : (i : ℕ) → filled * lanes ≤ i → i < length xs → get_or xs i 0 ≡ 0
