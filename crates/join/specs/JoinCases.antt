-- Kernels of given filters: one table of cases under one theorem, by computation with the definitions. It holds a joined plane of 3 by 3,
-- channels of all three kinds, weights at both ends of 16 bits and one beyond, and each answer.
use Rattle.std.specs.Prelude.{◌≡◌, refl, List, [], ◌∷◌, ℕ, ℤ, pos, neg_ℤ, length}
use Rattle.algebra.specs.Sum.{sum_z}
use Rattle.algebra.specs.Places.{table}
use Rattle.base.specs.Rules.{inside}
use Rattle.layer.specs.declared.shape.Layer.{Layer}
use Rattle.layer.specs.Numbers.{layer_of}
use Rattle.joined.specs.Joined.{joined_weight, joined_at}
use Rattle.join.specs.Answer.{weights_fit, join_code, join_left}

-- a filter of this stride; the figures that are left out are 0
abbrev strided : (stride inputs outputs side : ℕ) → Layer
strided stride inputs outputs side = layer_of (0 ∷ 4 ∷ inputs ∷ outputs ∷ 0 ∷ 0 ∷ side ∷ stride ∷ [])

abbrev filter : (inputs outputs side : ℕ) → Layer
filter = strided 1

pub data Case : Type 0 where
  -- these filters and kernels make this answer, and leave `joined` as it is here: lent so, or the joined kernel already
  case : (first : Layer) (firstKernel : List ℤ) (second : Layer) (secondKernel joined : List ℤ) (code : ℕ) → Case

abbrev pub Hold : List Case → Type 0
Hold [] = Unit {0}
Hold (case first firstKernel second secondKernel joined code ∷ cases) =
    ((join_code first firstKernel second secondKernel (length joined) ≡ code)
    × (join_left first firstKernel second secondKernel joined ≡ joined))
    × Hold cases

abbrev minus : ℕ → ℤ
minus n = neg_ℤ (pos n)

abbrev single : ℤ → List ℤ
single z = z ∷ []

abbrev zeros : ℕ → List ℤ
zeros n = table n (λ _. pos 0)

abbrev pub cases : List Case
cases =
    -- two planes of 2 by 2
    case (filter 1 1 2) (pos 1 ∷ pos 2 ∷ pos 3 ∷ pos 4 ∷ []) (filter 1 1 2) (pos 5 ∷ pos 6 ∷ pos 7 ∷ pos 8 ∷ [])
    (pos 5 ∷ pos 16 ∷ pos 12 ∷ pos 22 ∷ pos 60 ∷ pos 40 ∷ pos 21 ∷ pos 52 ∷ pos 32 ∷ []) 0
    -- two map channels, two middle channels, two output channels
    ∷ case (filter 2 1 1) (pos 2 ∷ pos 3 ∷ []) (filter 1 2 1) (pos 5 ∷ minus 7 ∷ []) (pos 10 ∷ pos 15 ∷ minus 14 ∷ minus 21 ∷ []) 0
    ∷ case (filter 1 2 1) (pos 2 ∷ pos 3 ∷ []) (filter 2 2 1) (pos 5 ∷ pos 7 ∷ minus 11 ∷ pos 13 ∷ []) (pos 31 ∷ pos 17 ∷ []) 0
    -- 32,767 and −32,768 fit, one beyond does not
    ∷ case (filter 1 1 1) (single (pos 4681)) (filter 1 1 1) (single (pos 7)) (single (pos 32767)) 0
    ∷ case (filter 1 1 1) (single (pos 16384)) (filter 1 1 1) (single (minus 2)) (single (minus 32768)) 0
    ∷ case (filter 1 1 1) (single (pos 16384)) (filter 1 1 1) (single (pos 2)) (single (pos 9)) 28
    ∷ case (filter 1 1 1) (single (pos 10923)) (filter 1 1 1) (single (minus 3)) (single (pos 9)) 28
    -- a side of 12; other room than the joined kernel needs comes first
    ∷ case (filter 1 1 6) (zeros 36) (filter 1 1 7) (zeros 49) (zeros 144) 27
    ∷ case (filter 1 1 6) (zeros 36) (filter 1 1 7) (zeros 49) (zeros 121) 26
    -- stride 2, channels that do not meet, a channel too many
    ∷ case (filter 1 1 1) (single (pos 1)) (strided 2 1 1 1) (single (pos 1)) (single (pos 9)) 26
    ∷ case (filter 1 1 1) (single (pos 1)) (filter 2 1 1) (pos 1 ∷ pos 1 ∷ []) (single (pos 9)) 26
    ∷ case (filter 65 1 1) (zeros 65) (filter 1 1 1) (single (pos 1)) (zeros 65) 26
    ∷ []

pub cases_hold : Hold cases
unfolding join_code weights_fit joined_at joined_weight sum_z table inside
cases_hold = (
  (refl, refl),
  (
    (refl, refl),
    (
      (refl, refl),
      (
        (refl, refl),
        ((refl, refl), ((refl, refl), ((refl, refl), ((refl, refl), ((refl, refl), ((refl, refl), ((refl, refl), ((refl, refl), tt)))))))),
      ),
    ),
  ),
)
