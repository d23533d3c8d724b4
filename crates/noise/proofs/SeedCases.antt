-- Maps of given seeds: one table of cases under one theorem, by computation with the definition. It holds both ends of the seeds, an empty map,
-- draws of 0 and of 4,294,967,295, and the draws on either side of half of the seeds, whose values are −1 and 0.
use Rattle.std.specs.Prelude.{◌≡◌, ℕ, List, [], ◌∷◌, ℤ, pos, neg_ℤ, refl}
use Rattle.algebra.specs.Places.{table}
use Rattle.noise.specs.Draw.{next_seed, seed_after, noise_value, noise_left, last_seed}

pub data Case : Type 0 where
  -- from this seed as many draws as values give these values and this last seed
  case : (seed : ℕ) (values : List ℤ) (last : ℕ) → Case

-- what the lent map holds makes no difference: here it holds the values already
abbrev pub Hold : List Case → Type 0
Hold [] = Unit {0}
Hold (case seed values last ∷ cases) = ((noise_left seed values ≡ values) × (last_seed seed values ≡ last)) × Hold cases

abbrev minus : ℕ → ℤ
minus n = neg_ℤ (pos n)

abbrev pub cases : List Case
cases =
    case 0 (minus 68 ∷ minus 57 ∷ pos 81 ∷ pos 42 ∷ minus 30 ∷ pos 31 ∷ []) 2670642822
    ∷ case 2147483648 (pos 60 ∷ pos 71 ∷ minus 47 ∷ minus 86 ∷ pos 98 ∷ minus 97 ∷ []) 523159174
    ∷ case 4294967295 (minus 68 ∷ minus 80 ∷ minus 94 ∷ pos 33 ∷ pos 55 ∷ pos 95 ∷ []) 3754216397
    -- an empty map
    ∷ case 123456789 [] 123456789
    -- the first seed drawn is 0, or the greatest one
    ∷ case 634785765 (minus 128 ∷ minus 68 ∷ []) 1013904223
    ∷ case 653637408 (pos 127 ∷ minus 68 ∷ []) 1012239698
    -- it is the greatest one below half of the seed_count, or half of them
    ∷ case 2801121056 (minus 1 ∷ pos 60 ∷ []) 3159723346
    ∷ case 2782269413 (pos 0 ∷ pos 60 ∷ []) 3161387871
    ∷ []

pub cases_hold : Hold cases
unfolding noise_value seed_after next_seed table
cases_hold =
    ((refl, refl), ((refl, refl), ((refl, refl), ((refl, refl), ((refl, refl), ((refl, refl), ((refl, refl), ((refl, refl), tt))))))))
