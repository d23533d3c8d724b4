-- 02, E3: sequences of one and two small layers, worked out by hand: the maps that they grow, and each answer in its place, as one table of cases held by
-- one theorem. It is proved by computation with the definitions.
use Rattle.std.specs.Prelude.{Bool, ◌&&◌, List, [], ◌∷◌, ◌++◌, ℕ, T, eqb, ℤ, pos}
use Rattle.algebra.specs.Every.{every_of}
use Rattle.algebra.specs.Greatest.{greatest}
use Rattle.algebra.specs.Places.{table}
use Rattle.algebra.specs.Sum.{sum, sum_z}
use Rattle.base.specs.Rules.{inside}
use Rattle.layer.specs.Planned.{crop_fits}
use Rattle.layer.specs.Shape.{conv_size, tconv_size}
use Rattle.layer.specs.Direct.{conv, tconv, full_at, direct_at}
use Rattle.load.specs.Load.{size_total, group_total, greatest_group, load, loads_fit, within_peak}
use Rattle.load.specs.Blank.{blank, none_blank}
use Rattle.load.specs.Offender.{first_beyond, offender_of}
use Rattle.checks.specs.Charts.{minus, positive, equals}
use Rattle.checks.specs.Checks.{offender_with}
use Rattle.levels.specs.Level.{half_or_more, nearest, divided, clamp, level}
use Rattle.steps.specs.declared.answer.Room.{Room}
use Rattle.steps.specs.Steps.{step_at, weights_before}
use Rattle.steps.specs.Answer.{follows}
use Rattle.steps.specs.Lent.{sequence_code, sequence_answer}
use Rattle.sequence.specs.Sequence.{map_after}

pub data Case : Type 0 where
  -- the map after all steps
  grown : (count : ℕ) (numbers : List ℕ) (map kernels final : List ℤ) → Case
  -- the number, with the channel, row, column and side that stand with it
  answered : (count : ℕ) (numbers : List ℕ) (map kernels : List ℤ) (room : Room) (number channel row column side : ℕ) → Case

pub holds : Case → Bool
holds (grown count numbers map kernels final) = equals (map_after (step_at numbers) map kernels count) final
holds (answered count numbers map kernels room number channel row column side) =
    let answer = sequence_answer count (step_at numbers) map kernels room in
    eqb answer.code number && eqb answer.offender.channel channel && eqb answer.offender.row row && eqb answer.offender.column column
    && eqb answer.offender.side side

-- ---- the steps. A row is kind field C M H W K S P peak top left h w, added rows and columns, shift, bound

-- CONV in F_4 of a map of 2 by 2, all of it, with one weight and shift 0
abbrev scaled : (peak bound : ℕ) → List ℕ
scaled peak bound = 0 ∷ 4 ∷ 1 ∷ 1 ∷ 2 ∷ 2 ∷ 1 ∷ 1 ∷ 0 ∷ peak ∷ 0 ∷ 0 ∷ 2 ∷ 2 ∷ 0 ∷ 0 ∷ 0 ∷ bound ∷ []

-- CONV in F_4 of such a map to one value, with four weights and shift 3
abbrev summed : (peak bound : ℕ) → List ℕ
summed peak bound = 0 ∷ 4 ∷ 1 ∷ 1 ∷ 2 ∷ 2 ∷ 2 ∷ 1 ∷ 0 ∷ peak ∷ 0 ∷ 0 ∷ 1 ∷ 1 ∷ 0 ∷ 0 ∷ 3 ∷ bound ∷ []

-- TCONV in F_5 of one value to 2 by 2, with four weights and shift 1
abbrev spread : (peak bound : ℕ) → List ℕ
spread peak bound = 1 ∷ 5 ∷ 1 ∷ 1 ∷ 1 ∷ 1 ∷ 2 ∷ 2 ∷ 0 ∷ peak ∷ 0 ∷ 0 ∷ 2 ∷ 2 ∷ 0 ∷ 0 ∷ 1 ∷ bound ∷ []

abbrev both : List ℕ
both = scaled 4 9 ++ summed 9 100

abbrev map : List ℤ
map = positive (1 ∷ 2 ∷ 3 ∷ 4 ∷ [])

-- one weight, then four
abbrev kernels : List ℤ
kernels = positive (2 ∷ 1 ∷ 2 ∷ 3 ∷ 4 ∷ [])

abbrev room : (first second output scratch last : ℕ) → Room
room first second output scratch last = record { first = first; second = second; output = output; scratch = scratch; last = last }

-- as much as `both` needs
abbrev enough : Room
enough = room 4 4 4 3072 1

pub cases : List Case
cases =
    -- 2 4 6 8, then 60 / 8 is 7.5
    grown 2 both map kernels (pos 8 ∷ [])
    -- clamped between the layers: 2 4 5 5, then 45 / 8 is 5.6
    ∷ grown 2 (scaled 4 5 ++ summed 5 100) map kernels (pos 6 ∷ [])
    -- one layer alone, the row after it left out
    ∷ grown 1 both map kernels (positive (2 ∷ 4 ∷ 6 ∷ 8 ∷ []))
    -- in both fields: 3 −6 9 −12 become 2 −3 5 −6, then −13 / 8 is −1.6
    ∷ grown 2 (spread 3 9 ++ summed 9 100) (pos 3 ∷ []) (pos 1 ∷ minus 2 ∷ pos 3 ∷ minus 4 ∷ positive (1 ∷ 2 ∷ 3 ∷ 4 ∷ [])) (minus 2 ∷ [])
    ∷ answered 2 both map kernels enough 0 0 0 0 0
    ∷ answered 0 both map kernels enough 21 0 0 0 0
    ∷ answered 9 both map kernels enough 21 0 0 0 0
    -- the figures of the first layer, then too few weights for the second, and one left over at the last
    ∷ answered 2 (2 ∷ both) map kernels enough 1 0 0 0 0
    ∷ answered 2 both map (positive (2 ∷ 1 ∷ 2 ∷ 3 ∷ [])) enough 11 0 0 0 0
    ∷ answered 1 (scaled 4 9) map (positive (2 ∷ 1 ∷ [])) enough 11 0 0 0 0
    ∷ answered 2 (scaled 0 9 ++ summed 9 100) map kernels enough 14 0 0 0 0
    -- a blank channel; a load of 32,770; a bound of 0
    ∷ answered 2 both map (positive (0 ∷ 1 ∷ 2 ∷ 3 ∷ 4 ∷ [])) enough 24 0 0 0 0
    ∷ answered 2 (scaled 16385 9 ++ summed 9 100) map kernels enough 16 0 0 0 0
    ∷ answered 2 (scaled 4 0 ++ summed 9 100) map kernels enough 20 0 0 0 0
    -- the first layer's 20 comes before the second's 14, the second's 16 before 22
    ∷ answered 2 (scaled 4 0 ++ summed 0 100) map kernels enough 20 0 0 0 0
    ∷ answered 2 (scaled 4 9 ++ summed 3277 100) map kernels enough 16 0 0 0 0
    ∷ answered 2 (scaled 4 9 ++ summed 8 100) map kernels enough 22 0 0 0 0
    ∷ answered 2 (scaled 4 9 ++ scaled 9 100) map (positive (2 ∷ 2 ∷ [])) (room 4 4 4 3072 4) 0 0 0 0 0
    ∷ answered 2 (summed 4 9 ++ scaled 9 100) map (positive (1 ∷ 2 ∷ 3 ∷ 4 ∷ 2 ∷ [])) (room 4 4 4 3072 4) 22 0 0 0 0
    ∷ answered 2 both (positive (1 ∷ 2 ∷ 3 ∷ [])) kernels enough 10 0 0 0 0
    -- the final buffer has the last layer's length; the others have room for the greatest layer's
    ∷ answered 2 both map kernels (room 4 4 4 3072 2) 12 0 0 0 0
    ∷ answered 2 both map kernels (room 3 4 4 3072 1) 12 0 0 0 0
    ∷ answered 2 both map kernels (room 4 3 4 3072 1) 12 0 0 0 0
    ∷ answered 2 both map kernels (room 4 4 3 3072 1) 12 0 0 0 0
    ∷ answered 1 (scaled 4 9) map (pos 2 ∷ []) (room 4 3 4 3072 4) 12 0 0 0 0
    -- longer buffers; one word of scratch too few, in F_4 and where the first layer is in F_5
    ∷ answered 2 both map kernels (room 5 6 7 4000 1) 0 0 0 0 0
    ∷ answered 2 both map kernels (room 4 4 4 3071 1) 13 0 0 0 0
    ∷ answered 2 (spread 3 9 ++ summed 9 100) (pos 3 ∷ []) (positive (1 ∷ 2 ∷ 3 ∷ 4 ∷ 1 ∷ 2 ∷ 3 ∷ 4 ∷ [])) (room 4 4 4 12287 1) 13 0 0 0 0
    -- the first map value beyond the peak
    ∷ answered 2 (scaled 2 9 ++ summed 9 100) map kernels enough 15 0 1 0 1
    ∷ answered 2 both (pos 1 ∷ minus 5 ∷ pos 6 ∷ pos 0 ∷ []) kernels enough 25 0 0 1 2
    ∷ []

-- every case of the table holds
pub cases_hold : T (every_of holds cases)
unfolding cases holds step_at weights_before follows map_after sequence_code offender_with offender_of first_beyond inside crop_fits conv_size tconv_size none_blank blank
    greatest loads_fit load size_total greatest_group group_total within_peak sum sum_z table direct_at full_at conv tconv half_or_more nearest divided clamp level
cases_hold = tt
