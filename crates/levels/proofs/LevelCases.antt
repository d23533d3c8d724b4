-- Levels of given outputs: one table of cases under one theorem, by computation with the definition. It holds the request's example, both
-- halves, both clamps, and the ends of the shift, of the bound and of the outputs.
use Rattle.std.specs.Prelude.{◌≡◌, refl, List, [], ◌∷◌, ℕ, ℤ, pos, neg_ℤ}
use Rattle.levels.specs.Level.{half_or_more, nearest, divided, clamp, level}
use Rattle.levels.specs.Answer.{levels_of}

pub data Case : Type 0 where
  -- with this shift and bound, the outputs have these levels
  case : (shift bound : ℕ) → (outputs levels : List ℤ) → Case

abbrev pub Hold : List Case → Type 0
Hold [] = Unit {0}
Hold (case shift bound outputs levels ∷ cases) = (levels_of shift bound outputs ≡ levels) × Hold cases

abbrev minus : ℕ → ℤ
minus n = neg_ℤ (pos n)

abbrev pub cases : List Case
cases =
    -- the request's example, −3 becomes −2 and 3 becomes 2; both halves, and both clamps after the division
    case 1 2
    (minus 5 ∷ minus 4 ∷ minus 3 ∷ minus 2 ∷ minus 1 ∷ pos 0 ∷ pos 1 ∷ pos 2 ∷ pos 3 ∷ pos 4 ∷ pos 5 ∷ [])
    (minus 2 ∷ minus 2 ∷ minus 2 ∷ minus 1 ∷ minus 1 ∷ pos 0 ∷ pos 1 ∷ pos 1 ∷ pos 2 ∷ pos 2 ∷ pos 2 ∷ [])
    -- a half goes away from zero, less than a half does not
    ∷ case 3 100
    (minus 12 ∷ minus 11 ∷ minus 4 ∷ minus 3 ∷ pos 3 ∷ pos 4 ∷ pos 11 ∷ pos 12 ∷ [])
    (minus 2 ∷ minus 1 ∷ minus 1 ∷ pos 0 ∷ pos 0 ∷ pos 1 ∷ pos 1 ∷ pos 2 ∷ [])
    -- with shift 0 nothing is divided
    ∷ case 0 32767
    (minus 32768 ∷ minus 32767 ∷ pos 0 ∷ pos 32767 ∷ pos 32768 ∷ [])
    (minus 32767 ∷ minus 32767 ∷ pos 0 ∷ pos 32767 ∷ pos 32767 ∷ [])
    -- the greatest shift: half of 2^31 and one less, and the ends of the outputs
    ∷ case 31 32767
    (minus 2147483648 ∷ minus 1073741824 ∷ minus 1073741823 ∷ pos 1073741823 ∷ pos 1073741824 ∷ pos 2147483647 ∷ [])
    (minus 1 ∷ minus 1 ∷ pos 0 ∷ pos 0 ∷ pos 1 ∷ pos 1 ∷ [])
    -- the ends of the outputs come to 2^15, which is clamped, and to 2^14
    ∷ case 16 32767 (minus 2147483648 ∷ pos 2147483647 ∷ []) (minus 32767 ∷ pos 32767 ∷ [])
    ∷ case 17 32767 (minus 2147483648 ∷ pos 2147483647 ∷ []) (minus 16384 ∷ pos 16384 ∷ [])
    ∷ []

pub cases_hold : Hold cases
unfolding level clamp divided nearest half_or_more
cases_hold = (refl, (refl, (refl, (refl, (refl, (refl, tt))))))
