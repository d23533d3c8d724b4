-- 02, E11: maps with what is told of them, as one table of cases, held by one theorem. It is proved by computation with the definitions.
use Rattle.std.specs.Prelude.{Bool, ◌&&◌, List, [], ◌∷◌, ℕ, T, eqb, ℤ, pos, set, replicate}
use Rattle.algebra.specs.Every.{every_of}
use Rattle.algebra.specs.Sum.{sum}
use Rattle.algebra.specs.Greatest.{greatest}
use Rattle.base.specs.Rules.{inside}
use Rattle.layer.specs.Planned.{crop_fits}
use Rattle.layer.specs.declared.shape.Layer.{Layer}
use Rattle.layer.specs.Shape.{kernel_count, output_count, conv_size, tconv_size, scratch_words}
use Rattle.load.specs.Load.{size_total, group_total, greatest_group, load, loads_fit, within_peak}
use Rattle.load.specs.Blank.{blank, none_blank}
use Rattle.load.specs.Offender.{first_beyond, offender_of}
use Rattle.checks.specs.Engine.{tile_engine}
use Rattle.checks.specs.Checks.{offender_with, plan_code, run_code}
use Rattle.checks.specs.Charts.{CONV, TCONV, channels, minus}

-- a layer, a map, the number that a run with a kernel of ones answers with, and the channel, row, column and side that come with it
pub data Case : Type 0 where
  told : Layer → (map : List ℤ) → (number channel row column side : ℕ) → Case

abbrev answer : Layer → (map : List ℤ) → ℕ
answer l map = run_code tile_engine l map (replicate (kernel_count l) (pos 1)) (output_count l) (scratch_words l)

pub holds : Case → Bool
holds (told l map number channel row column side) =
    let place = offender_with (answer l map) l map in
    eqb (answer l map) number && eqb place.channel channel && eqb place.row row && eqb place.column column && eqb place.side side

-- two channels of 2 rows of 3 values, A 9
abbrev two : Layer
two = channels 2 1 (CONV 4 2 3 1 1 0 9)

pub cases : List Case
cases =
    told two (replicate 12 (minus 9)) 0 0 0 0 0
    -- each place of a channel, on either side
    ∷ told two (set (replicate 12 (pos 9)) 0 (pos 10)) 15 0 0 0 1
    ∷ told two (set (replicate 12 (pos 9)) 2 (minus 10)) 25 0 0 2 2
    ∷ told two (set (replicate 12 (pos 9)) 3 (pos 10)) 15 0 1 0 1
    ∷ told two (set (replicate 12 (pos 9)) 7 (minus 10)) 25 1 0 1 2
    ∷ told two (set (replicate 12 (pos 9)) 11 (pos 32767)) 15 1 1 2 1
    -- the first in stored order, whichever its side
    ∷ told two (set (set (replicate 12 (pos 0)) 4 (minus 10)) 5 (pos 10)) 25 0 1 1 2
    ∷ told two (set (set (replicate 12 (pos 0)) 6 (minus 10)) 5 (pos 10)) 15 0 1 2 1
    -- the ends of 16 bits
    ∷ told (CONV 5 1 1 1 1 0 32767) (minus 32768 ∷ []) 25 0 0 0 2
    ∷ told (CONV 5 1 1 1 1 0 32767) (minus 32767 ∷ []) 0 0 0 0 0
    ∷ told (TCONV 4 1 1 1 1 0 32766) (pos 32767 ∷ []) 15 0 0 0 1
    -- a number before 15 comes with zeros
    ∷ told (CONV 4 1 1 1 1 0 32768) (minus 32768 ∷ []) 14 0 0 0 0
    ∷ told (CONV 6 1 1 1 1 0 1) (pos 2 ∷ []) 2 0 0 0 0
    ∷ []

-- every case of the table holds
pub cases_hold : T (every_of holds cases)
unfolding cases holds conv_size tconv_size sum plan_code run_code inside crop_fits within_peak offender_of first_beyond offender_with
    none_blank blank loads_fit load size_total group_total greatest_group greatest
cases_hold = tt
