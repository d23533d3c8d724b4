-- 02, E2: kernels judged by the load and by the former one, as one table of cases, held by one theorem. It is proved by computation with the
-- definitions.
use Rattle.std.specs.Prelude.{Bool, ◌&&◌, List, [], ◌∷◌, ℕ, T, eqb, ℤ, pos, set, replicate}
use Rattle.algebra.specs.Every.{every_of}
use Rattle.algebra.specs.Sum.{sum}
use Rattle.algebra.specs.Greatest.{greatest}
use Rattle.base.specs.Rules.{inside}
use Rattle.layer.specs.Planned.{crop_fits}
use Rattle.layer.specs.declared.shape.Layer.{Layer}
use Rattle.layer.specs.Shape.{map_count, output_count, conv_size, tconv_size, scratch_words}
use Rattle.load.specs.Load.{size_total, group_total, greatest_group, load, loads_fit, within_peak}
use Rattle.load.specs.Offender.{first_beyond, offender_of}
use Rattle.load.specs.Blank.{blank, none_blank}
use Rattle.checks.specs.Engine.{tile_engine}
use Rattle.checks.specs.Checks.{plan_code, run_code}
use Rattle.checks.specs.FormerLoad.{former_load, former_loads_fit, former_run_code}
use Rattle.checks.specs.Charts.{CONV, TCONV, channels, positive, minus}

-- a layer, a kernel, the number that a run answers with, and the number that it answered with before E2; the map is of ones
pub data Case : Type 0 where
  judged : Layer → (kernel : List ℤ) → (answer former : ℕ) → Case

abbrev ones : Layer → List ℤ
ones l = replicate (map_count l) (pos 1)

pub holds : Case → Bool
holds (judged l kernel answer former) =
    eqb (run_code tile_engine l (ones l) kernel (output_count l) (scratch_words l)) answer
    && eqb (former_run_code tile_engine l (ones l) kernel (output_count l) (scratch_words l)) former

-- sixteen weights of 8,192: in each of the four groups by 2 of a plane of 4 by 4 they add up to 32,768
abbrev full : List ℤ
full = replicate 16 (pos 8192)

-- two map channels of one value to one output channel, K 2 and S 2
abbrev two_to_one : Layer
two_to_one = channels 2 1 (TCONV 4 1 1 2 2 0 1)

-- ---- the table. After the kind of a layer: field, H, W, K, S, P, A

pub cases : List Case
cases =
    -- every group at the limit, then one more in one of them
    judged (TCONV 4 2 2 4 2 0 1) full 0 16
    ∷ judged (TCONV 4 2 2 4 2 0 1) (set full 0 (minus 8193)) 16 16
    ∷ judged (TCONV 4 2 2 4 2 0 1) (set full 1 (pos 8193)) 16 16
    ∷ judged (TCONV 4 2 2 4 2 0 1) (set full 6 (minus 8193)) 16 16
    ∷ judged (TCONV 4 2 2 4 2 0 1) (set full 15 (pos 8193)) 16 16
    -- the same in F_5, where A times 65,538 is the greatest load
    ∷ judged (TCONV 5 1 1 2 2 0 32767) (positive (32767 ∷ 32767 ∷ 32767 ∷ 32767 ∷ [])) 0 16
    ∷ judged (TCONV 5 1 1 3 2 0 32767) (positive (32767 ∷ 0 ∷ 32767 ∷ 0 ∷ 0 ∷ 0 ∷ 4 ∷ 0 ∷ 0 ∷ [])) 0 0
    ∷ judged (TCONV 5 1 1 3 2 0 32767) (positive (32767 ∷ 1 ∷ 32767 ∷ 1 ∷ 1 ∷ 1 ∷ 4 ∷ 1 ∷ 0 ∷ [])) 0 16
    ∷ judged (TCONV 5 1 1 3 2 0 32767) (positive (32767 ∷ 1 ∷ 32767 ∷ 1 ∷ 1 ∷ 1 ∷ 4 ∷ 1 ∷ 1 ∷ [])) 16 16
    -- CONV and stride 1 take all weights together
    ∷ judged (CONV 4 4 4 4 2 0 1) full 16 16
    ∷ judged (TCONV 4 2 2 4 1 0 1) full 16 16
    ∷ judged (TCONV 4 2 2 4 1 0 1) (replicate 16 (minus 2048)) 0 0
    -- K 3 and S 4: nine groups of one weight, and seven of none
    ∷ judged (TCONV 4 1 1 3 4 0 1) (replicate 9 (minus 32768)) 0 16
    ∷ judged (TCONV 4 1 1 3 4 0 2) (replicate 9 (minus 32768)) 16 16
    ∷ judged (TCONV 4 1 1 3 4 0 2) (replicate 9 (pos 16384)) 0 16
    -- a group goes over all map channels: the greatest weights of two of them add up in one group, not in two
    ∷ judged two_to_one (positive (20000 ∷ 0 ∷ 0 ∷ 0 ∷ 0 ∷ 20000 ∷ 0 ∷ 0 ∷ [])) 0 16
    ∷ judged two_to_one (positive (20000 ∷ 0 ∷ 0 ∷ 0 ∷ 20000 ∷ 0 ∷ 0 ∷ 0 ∷ [])) 16 16
    ∷ []

-- every case of the table holds
pub cases_hold : T (every_of holds cases)
unfolding cases holds conv_size tconv_size sum greatest plan_code run_code former_run_code inside crop_fits within_peak offender_of first_beyond
    none_blank blank loads_fit former_loads_fit load former_load size_total group_total greatest_group
cases_hold = tt
