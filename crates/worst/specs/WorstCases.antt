-- 02, E13: calls with what they answer and leave, as one table of cases, held by one theorem. It is proved by computation with the definitions.
use Rattle.std.specs.Prelude.{Bool, ◌&&◌, List, [], ◌∷◌, ℕ, T, eqb, ℤ, pos, length, replicate}
use Rattle.algebra.specs.Every.{every_of}
use Rattle.algebra.specs.First.{first_where}
use Rattle.algebra.specs.Greatest.{greatest, first_greatest}
use Rattle.algebra.specs.Places.{table}
use Rattle.algebra.specs.Sum.{sum, sum_z}
use Rattle.base.specs.Rules.{inside}
use Rattle.layer.specs.declared.shape.Layer.{Layer}
use Rattle.layer.specs.Numbers.{layer_of}
use Rattle.layer.specs.Planned.{crop_fits}
use Rattle.layer.specs.Shape.{conv_size, tconv_size}
use Rattle.layer.specs.Direct.{conv, full_at, direct_at}
use Rattle.load.specs.Load.{size_total, load}
use Rattle.load.specs.Blank.{blank, none_blank}
use Rattle.checks.specs.Charts.{minus, positive, equal, equals}
use Rattle.worst.specs.Window.{inside_at, first_whole, has_whole}
use Rattle.worst.specs.Worst.{value_for, weight_met, value_at, worst_place}
use Rattle.worst.specs.Answer.{worst_code, worst_left}

pub data Case : Type 0 where
  -- the call is accepted, leaves this map, and makes the output at this flat place equal this load
  shown : (layer : Layer) (kernel map : List ℤ) (place output : ℕ) → Case
  -- the call makes this answer, and leaves the map as it was lent
  refused : (layer : Layer) (kernel map : List ℤ) (number : ℕ) → Case

pub holds : Case → Bool
holds (shown l kernel map place output) =
    equals (worst_left l kernel (replicate (length map) (pos 7))) map
    && eqb (worst_place l kernel) place
    && equal (direct_at l map kernel place) (pos output)
holds (refused l kernel map number) = eqb (worst_code l kernel (length map)) number && equals (worst_left l kernel map) map

-- ---- the table. A layer is kind field C M H W K S P peak top left h w

abbrev ones : ℕ → List ℤ
ones n = replicate n (pos 1)

pub cases : List Case
cases =
    -- a weight of each sign and one of 0
    shown (layer_of (0 ∷ 4 ∷ 1 ∷ 1 ∷ 3 ∷ 3 ∷ 2 ∷ 1 ∷ 0 ∷ 9 ∷ 0 ∷ 0 ∷ 2 ∷ 2 ∷ [])) (pos 1 ∷ minus 2 ∷ pos 0 ∷ pos 3 ∷ [])
    (pos 9 ∷ minus 9 ∷ pos 0 ∷ pos 0 ∷ pos 9 ∷ pos 0 ∷ pos 0 ∷ pos 0 ∷ pos 0 ∷ []) 0 54
    -- of three channels two have the greatest load
    ∷ shown (layer_of (0 ∷ 4 ∷ 1 ∷ 3 ∷ 1 ∷ 1 ∷ 1 ∷ 1 ∷ 0 ∷ 9 ∷ 0 ∷ 0 ∷ 1 ∷ 1 ∷ [])) (pos 1 ∷ minus 5 ∷ pos 5 ∷ []) (minus 9 ∷ []) 1 45
    -- two map channels; P 1 and S 2 move the window to row 1, column 1 of the map, and the crop starts at its row
    ∷ shown (layer_of (0 ∷ 4 ∷ 2 ∷ 1 ∷ 3 ∷ 3 ∷ 2 ∷ 2 ∷ 1 ∷ 9 ∷ 1 ∷ 0 ∷ 1 ∷ 2 ∷ []))
    (pos 1 ∷ pos 2 ∷ pos 3 ∷ minus 4 ∷ minus 1 ∷ pos 0 ∷ pos 0 ∷ pos 1 ∷ [])
    (pos 0 ∷ pos 0 ∷ pos 0 ∷ pos 0 ∷ pos 9 ∷ pos 9 ∷ pos 0 ∷ pos 9 ∷ minus 9
    ∷ pos 0 ∷ pos 0 ∷ pos 0 ∷ pos 0 ∷ minus 9 ∷ pos 0 ∷ pos 0 ∷ pos 0 ∷ pos 9 ∷ []) 1 108
    -- the least weight under the largest peak, which a run answers 16
    ∷ shown (layer_of (0 ∷ 4 ∷ 1 ∷ 1 ∷ 1 ∷ 1 ∷ 1 ∷ 1 ∷ 0 ∷ 32767 ∷ 0 ∷ 0 ∷ 1 ∷ 1 ∷ [])) (minus 32768 ∷ []) (minus 32767 ∷ []) 0 1073709056
    -- no whole window: H is below K; the crop keeps the border alone, before the map and after it
    ∷ refused (layer_of (0 ∷ 4 ∷ 1 ∷ 1 ∷ 1 ∷ 3 ∷ 2 ∷ 1 ∷ 1 ∷ 9 ∷ 0 ∷ 0 ∷ 2 ∷ 4 ∷ [])) (ones 4) (positive (5 ∷ 6 ∷ 7 ∷ [])) 29
    ∷ refused (layer_of (0 ∷ 4 ∷ 1 ∷ 1 ∷ 2 ∷ 2 ∷ 2 ∷ 1 ∷ 1 ∷ 9 ∷ 0 ∷ 0 ∷ 1 ∷ 3 ∷ [])) (ones 4) (positive (5 ∷ 6 ∷ 7 ∷ 8 ∷ [])) 29
    ∷ refused (layer_of (0 ∷ 4 ∷ 1 ∷ 1 ∷ 2 ∷ 2 ∷ 2 ∷ 1 ∷ 1 ∷ 9 ∷ 0 ∷ 2 ∷ 3 ∷ 1 ∷ [])) (ones 4) (positive (5 ∷ 6 ∷ 7 ∷ 8 ∷ [])) 29
    -- TCONV; a blank channel comes before it, then A, the kernel's length, the map's, and the layer's figures with those that are added
    ∷ refused (layer_of (1 ∷ 4 ∷ 1 ∷ 1 ∷ 1 ∷ 1 ∷ 1 ∷ 1 ∷ 0 ∷ 9 ∷ 0 ∷ 0 ∷ 1 ∷ 1 ∷ [])) (ones 1) (pos 5 ∷ []) 29
    ∷ refused (layer_of (1 ∷ 4 ∷ 1 ∷ 1 ∷ 1 ∷ 1 ∷ 1 ∷ 1 ∷ 0 ∷ 9 ∷ 0 ∷ 0 ∷ 1 ∷ 1 ∷ [])) (pos 0 ∷ []) (pos 5 ∷ []) 24
    ∷ refused (layer_of (1 ∷ 4 ∷ 1 ∷ 1 ∷ 1 ∷ 1 ∷ 1 ∷ 1 ∷ 0 ∷ 0 ∷ 0 ∷ 0 ∷ 1 ∷ 1 ∷ [])) (pos 0 ∷ []) (pos 5 ∷ []) 14
    ∷ refused (layer_of (1 ∷ 4 ∷ 1 ∷ 1 ∷ 1 ∷ 1 ∷ 1 ∷ 1 ∷ 0 ∷ 0 ∷ 0 ∷ 0 ∷ 1 ∷ 1 ∷ [])) [] (pos 5 ∷ []) 11
    ∷ refused (layer_of (1 ∷ 4 ∷ 1 ∷ 1 ∷ 1 ∷ 1 ∷ 1 ∷ 1 ∷ 0 ∷ 0 ∷ 0 ∷ 0 ∷ 1 ∷ 1 ∷ [])) [] (pos 5 ∷ pos 6 ∷ []) 10
    ∷ refused (layer_of (1 ∷ 4 ∷ 1 ∷ 1 ∷ 1 ∷ 1 ∷ 1 ∷ 1 ∷ 0 ∷ 0 ∷ 0 ∷ 0 ∷ 1 ∷ 2 ∷ [])) [] (pos 5 ∷ pos 6 ∷ []) 9
    ∷ refused (layer_of (1 ∷ 4 ∷ 1 ∷ 1 ∷ 1 ∷ 1 ∷ 1 ∷ 1 ∷ 0 ∷ 0 ∷ 0 ∷ 0 ∷ 1 ∷ 2 ∷ 0 ∷ 1 ∷ [])) [] (pos 5 ∷ pos 6 ∷ []) 23
    ∷ []

-- every case of the table holds
pub cases_hold : T (every_of holds cases)
unfolding cases holds worst_code inside crop_fits conv_size tconv_size none_blank blank inside_at first_whole has_whole first_where greatest first_greatest
    load size_total sum table value_at value_for weight_met direct_at full_at conv sum_z
cases_hold = tt
