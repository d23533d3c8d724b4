-- 01, "Chart cases": the starred cases 1 to 12 as one table of claims, held by one theorem. It is proved by computation with the
-- definitions: the direct sums, the checks, the tiles and the transform.
use Rattle.std.specs.Prelude.{Bool, true, false, ◌&&◌, cond, List, [], ◌∷◌, ℕ, T, eqb, ℤ, pos, neg_ℤ, nat_abs, ◌-ℤ◌, length, get_or, set, replicate}
use Rattle.algebra.specs.Planes.{cell}
use Rattle.algebra.specs.Every.{every_of}
use Rattle.algebra.specs.Sum.{sum, sum_z}
use Rattle.algebra.specs.Greatest.{greatest}
use Rattle.algebra.specs.Places.{table}
use Rattle.base.specs.Number.{ceiling_div}
use Rattle.base.specs.Rules.{inside}
use Rattle.fermat.specs.Field.{transform_length}
use Rattle.fermat.specs.Transform.{power_sum, transform_at, transform_in}
use Rattle.layer.specs.Planned.{crop_fits}
use Rattle.layer.specs.declared.shape.Layer.{Layer}
use Rattle.layer.specs.Shape.{output_count, conv_size, tconv_size, full_size, full_height, full_width, scratch_words, tile_total}
use Rattle.layer.specs.Direct.{conv, tconv, full_at, direct_at, product_sum}
use Rattle.load.specs.Load.{size_total, group_total, greatest_group, load, loads_fit, within_peak}
use Rattle.load.specs.Offender.{first_beyond, offender_of}
use Rattle.load.specs.Blank.{blank, none_blank}
use Rattle.checks.specs.Engine.{tile_engine}
use Rattle.checks.specs.Checks.{plan_code, run_code}

-- ---- claims

pub data Claim : Type 0 where
  -- a run of the layer on this map and kernel is accepted, and its direct sums are these outputs
  frame : Layer → (map kernel outputs : List ℤ) → Claim
  -- CONV of x against y, and TCONV of y against x, are both this number
  products : (forward backward : Layer) → (x y kernel : List ℤ) → ℤ → Claim
  -- the planner answers with this number
  plan : Layer → ℕ → Claim
  -- a run answers with this number
  run : Layer → (map kernel : List ℤ) → ℕ → Claim
  -- a layer has this many tiles
  tiles : Layer → ℕ → Claim
  -- there are N words, and their transform has this entry at this place
  entry : (field : ℕ) → (words : List ℕ) → (place value : ℕ) → Claim

abbrev pub equal : ℤ → ℤ → Bool
equal x y = eqb (nat_abs (x -ℤ y)) 0

abbrev pub equals : List ℤ → List ℤ → Bool
equals [] [] = true
equals [] (y ∷ ys) = false
equals (x ∷ xs) [] = false
equals (x ∷ xs) (y ∷ ys) = equal x y && equals xs ys

-- what a run answers with, given an output of the right length and just enough scratch
abbrev code : Layer → (map kernel : List ℤ) → ℕ
code l map kernel = run_code tile_engine l map kernel (output_count l) (scratch_words l)

-- the full output of a layer against other values of its shape
abbrev against : Layer → (map kernel others : List ℤ) → ℤ
against l map kernel others =
    product_sum l.outputs (full_height l) (full_width l) (full_at l map kernel) (cell (full_height l) (full_width l) others)

pub holds : Claim → Bool
holds (frame l map kernel outputs) = eqb (code l map kernel) 0 && equals (table (output_count l) (direct_at l map kernel)) outputs
holds (products forward backward x y kernel value) = equal (against forward x kernel y) value && equal (against backward y kernel x) value
holds (plan l number) = eqb (plan_code tile_engine l) number
holds (run l map kernel number) = eqb (code l map kernel) number
holds (tiles l total) = eqb (tile_total l) total
holds (entry field words place value) =
    eqb (length words) (transform_length field) && eqb (transform_in field (λ n. get_or words n 0) place) value

-- ---- layers of one channel to one, not cropped

abbrev whole : (kind field height width side stride padding peak : ℕ) → Layer
whole kind field height width side stride padding peak = record {
  kind = kind;
  field = field;
  inputs = 1;
  outputs = 1;
  height = height;
  width = width;
  side = side;
  stride = stride;
  padding = padding;
  peak = peak;
  top = 0;
  left = 0;
  rows = full height;
  columns = full width;
  below = 0;
  beside = 0;
}
  where
    full : ℕ → ℕ
    full size = cond (eqb kind 0) (conv_size size side stride padding) (tconv_size size side stride padding 0)

abbrev pub CONV : (field height width side stride padding peak : ℕ) → Layer
CONV = whole 0

abbrev pub TCONV : (field height width side stride padding peak : ℕ) → Layer
TCONV = whole 1

abbrev pub minus : ℕ → ℤ
minus n = neg_ℤ (pos n)

abbrev pub positive : List ℕ → List ℤ
positive [] = []
positive (n ∷ ns) = pos n ∷ positive ns

abbrev X : List ℤ
X = positive (1 ∷ 2 ∷ 3 ∷ 4 ∷ 5 ∷ 6 ∷ 7 ∷ 8 ∷ 9 ∷ [])

abbrev Y : List ℤ
Y = positive (1 ∷ 2 ∷ 3 ∷ 4 ∷ [])

abbrev G : List ℤ
G = positive (1 ∷ 2 ∷ 3 ∷ 4 ∷ [])

-- ---- the table. After the kind of a layer: field, H, W, K, S, P, A

pub charts : List Claim
charts =
    -- 1
    frame (CONV 4 3 3 2 1 0 9) X G (positive (37 ∷ 47 ∷ 67 ∷ 77 ∷ []))
    -- 2
    ∷ frame (TCONV 4 2 2 2 2 0 4) Y G (positive (1 ∷ 2 ∷ 2 ∷ 4 ∷ 3 ∷ 4 ∷ 6 ∷ 8 ∷ 3 ∷ 6 ∷ 4 ∷ 8 ∷ 9 ∷ 12 ∷ 12 ∷ 16 ∷ []))
    -- 3
    ∷ frame (TCONV 4 2 2 2 1 0 4) Y G (positive (1 ∷ 4 ∷ 4 ∷ 6 ∷ 20 ∷ 16 ∷ 9 ∷ 24 ∷ 16 ∷ []))
    -- 4
    ∷ frame (TCONV 4 2 2 2 1 1 4) Y G (positive (20 ∷ []))
    -- 5
    ∷ products (CONV 4 3 3 2 1 0 9) (TCONV 4 2 2 2 1 0 4) X Y G (pos 640)
    -- 6
    ∷ frame (CONV 4 3 3 2 1 0 9) X (pos 1 ∷ pos 0 ∷ pos 0 ∷ minus 1 ∷ []) (minus 4 ∷ minus 4 ∷ minus 4 ∷ minus 4 ∷ [])
    -- 7
    ∷ run (CONV 4 1 1 1 1 0 16384) (pos 16384 ∷ []) (pos 2 ∷ []) 0
    ∷ frame (CONV 4 1 1 1 1 0 16384) (pos 16384 ∷ []) (minus 2 ∷ []) (minus 32768 ∷ [])
    -- 8
    ∷ run (CONV 4 1 1 1 1 0 10923) (pos 10923 ∷ []) (pos 3 ∷ []) 16
    ∷ run (CONV 4 1 1 1 1 0 10922) (pos 10922 ∷ []) (pos 3 ∷ []) 0
    -- 9
    ∷ run (CONV 5 2 2 2 1 0 32767) Y (positive (32767 ∷ 32767 ∷ 4 ∷ 0 ∷ [])) 0
    ∷ run (CONV 5 2 2 2 1 0 32767) Y (positive (32767 ∷ 32767 ∷ 5 ∷ 0 ∷ [])) 16
    -- 10
    ∷ plan (TCONV 4 1 1 3 1 2 1) 8
    -- 11
    ∷ tiles (CONV 4 32 32 3 1 0 1) 1
    ∷ tiles (CONV 4 33 32 3 1 0 1) 2
    -- 12
    ∷ entry 4 (set (replicate 32 0) 1 1) 16 65536
    ∷ []

-- ---- layers of our own, where the chart's cases do not tell two readings apart

-- the layer with other channels and another crop, and so many rows and columns added
abbrev changed : Layer → (inputs outputs top left rows columns below beside : ℕ) → Layer
changed l inputs outputs top left rows columns below beside = record {
  kind = l.kind;
  field = l.field;
  inputs = inputs;
  outputs = outputs;
  height = l.height;
  width = l.width;
  side = l.side;
  stride = l.stride;
  padding = l.padding;
  peak = l.peak;
  top = top;
  left = left;
  rows = rows;
  columns = columns;
  below = below;
  beside = beside;
}

abbrev cropped : Layer → (top left rows columns : ℕ) → Layer
cropped l top left rows columns = changed l l.inputs l.outputs top left rows columns l.below l.beside

-- the layer with so many rows and columns added, not cropped
abbrev enlarged : (below beside : ℕ) → Layer → Layer
enlarged below beside l = changed l l.inputs l.outputs 0 0 (full_size l l.height below) (full_size l l.width beside) below beside

-- the layer from so many map channels to so many output channels
abbrev pub channels : (inputs outputs : ℕ) → Layer → Layer
channels inputs outputs l = changed l inputs outputs l.top l.left l.rows l.columns l.below l.beside

-- two channels to two, 2 by 2, K 1
abbrev two : (kind peak : ℕ) → Layer
two kind peak = channels 2 2 (whole kind 4 2 2 1 1 0 peak)

abbrev up_to8 : List ℤ
up_to8 = positive (1 ∷ 2 ∷ 3 ∷ 4 ∷ 5 ∷ 6 ∷ 7 ∷ 8 ∷ [])

abbrev up_to12 : List ℤ
up_to12 = positive (1 ∷ 2 ∷ 3 ∷ 4 ∷ 5 ∷ 6 ∷ 7 ∷ 8 ∷ 9 ∷ 10 ∷ 11 ∷ 12 ∷ [])

pub layers : List Claim
layers =
    -- a map that is not square, with stride, padding and a crop
    frame (CONV 4 3 4 2 2 1 12) up_to12 G (positive (4 ∷ 18 ∷ 12 ∷ 46 ∷ 94 ∷ 44 ∷ []))
    ∷ frame (cropped (CONV 4 3 4 2 2 1 12) 1 0 1 2) up_to12 G (positive (46 ∷ 94 ∷ []))
    ∷ frame (cropped (TCONV 4 2 3 3 3 1 6) 2 5 2 2) (pos 1 ∷ minus 2 ∷ pos 3 ∷ pos 4 ∷ pos 5 ∷ minus 6 ∷ [])
    X (minus 6 ∷ minus 12 ∷ minus 24 ∷ minus 30 ∷ [])
    -- the kernel's outer and inner channels change parts between the kinds
    ∷ frame (two 0 8) up_to8 (positive (1 ∷ 10 ∷ 100 ∷ 1000 ∷ [])) (positive (51 ∷ 62 ∷ 73 ∷ 84 ∷ 5100 ∷ 6200 ∷ 7300 ∷ 8400 ∷ []))
    ∷ frame (two 1 8) up_to8 (positive (1 ∷ 10 ∷ 100 ∷ 1000 ∷ [])) (positive (501 ∷ 602 ∷ 703 ∷ 804 ∷ 5010 ∷ 6020 ∷ 7030 ∷ 8040 ∷ []))
    -- the ends of the ranges
    ∷ plan (CONV 4 8 8 3 1 2 1) 0
    ∷ plan (CONV 4 8 8 3 1 3 1) 7
    ∷ plan (cropped (CONV 4 8 8 3 1 0 1) 0 0 7 6) 9
    ∷ run (CONV 5 1 1 1 1 0 32767) (pos 1 ∷ []) (pos 1 ∷ []) 0
    ∷ run (CONV 5 1 1 1 1 0 32768) (pos 1 ∷ []) (pos 1 ∷ []) 14
    -- what is added: with padding it need not be 0; it is added before the sum is held to 1; 23 comes before 8
    ∷ frame (enlarged 1 1 (TCONV 4 1 1 3 2 1 1)) (pos 1 ∷ []) X (positive (5 ∷ 6 ∷ 8 ∷ 9 ∷ []))
    ∷ frame (enlarged 0 1 (TCONV 4 1 1 2 2 0 1)) (pos 1 ∷ []) G (positive (1 ∷ 2 ∷ 0 ∷ 3 ∷ 4 ∷ 0 ∷ []))
    ∷ plan (enlarged 1 0 (TCONV 4 1 9 3 2 2 1)) 8
    ∷ plan (enlarged 2 0 (TCONV 4 1 9 3 3 2 1)) 0
    ∷ plan (enlarged 1 0 (TCONV 4 1 9 3 1 2 1)) 23
    ∷ plan (enlarged 0 1 (CONV 4 8 8 3 2 0 1)) 23
    -- the weights (1, 1, 0, 0) of two channels to two leave output channel 1 blank in CONV, and (1, 0, 1, 0) in TCONV
    ∷ run (two 0 8) up_to8 (positive (1 ∷ 1 ∷ 0 ∷ 0 ∷ [])) 24
    ∷ run (two 1 8) up_to8 (positive (1 ∷ 1 ∷ 0 ∷ 0 ∷ [])) 0
    ∷ run (two 0 8) up_to8 (positive (1 ∷ 0 ∷ 1 ∷ 0 ∷ [])) 0
    ∷ run (two 1 8) up_to8 (positive (1 ∷ 0 ∷ 1 ∷ 0 ∷ [])) 24
    -- 24 comes before 16, whichever channel is blank, and after 15; one group with a weight is enough
    ∷ run (channels 1 2 (CONV 4 1 1 1 1 0 16384)) (pos 1 ∷ []) (positive (0 ∷ 3 ∷ [])) 24
    ∷ run (channels 1 2 (CONV 4 1 1 1 1 0 16384)) (pos 1 ∷ []) (positive (3 ∷ 0 ∷ [])) 24
    ∷ run (channels 1 2 (CONV 4 1 1 1 1 0 16384)) (pos 1 ∷ []) (positive (3 ∷ 1 ∷ [])) 16
    ∷ run (CONV 4 1 1 1 1 0 1) (pos 2 ∷ []) (pos 0 ∷ []) 15
    ∷ run (TCONV 4 1 1 2 2 0 1) (pos 1 ∷ []) (positive (0 ∷ 0 ∷ 0 ∷ 0 ∷ [])) 24
    ∷ run (TCONV 4 1 1 2 2 0 1) (pos 1 ∷ []) (pos 0 ∷ pos 0 ∷ minus 1 ∷ pos 0 ∷ []) 0
    -- wanted rows stand S apart: 31 of them span 61 rows of the grid, three tiles of 30; 30 span 59, two tiles
    ∷ tiles (CONV 4 64 8 3 2 0 1) 3
    ∷ tiles (CONV 4 62 8 3 2 0 1) 2
    ∷ []

-- every claim of the table of starred cases holds
pub charts_hold : T (every_of holds charts)
unfolding charts holds table conv_size tconv_size full_at conv tconv direct_at product_sum sum sum_z
    plan_code run_code inside crop_fits within_peak offender_of first_beyond none_blank blank loads_fit load size_total group_total greatest_group greatest tile_total ceiling_div
    transform_at power_sum
charts_hold = tt

-- and every claim of our own
layers_hold : T (every_of holds layers)
unfolding layers holds table conv_size tconv_size full_at conv tconv direct_at sum sum_z
    plan_code run_code inside crop_fits within_peak offender_of first_beyond none_blank blank loads_fit load size_total group_total greatest_group greatest tile_total ceiling_div
layers_hold = tt
