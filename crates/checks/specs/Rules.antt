-- 01, "Returned by number", and 02, E7, E10 and E11: the rules 1 to 17 and 23 to 25, one definition each. A rule holds where its number is not
-- returned.
-- The lists of the rules that a plan, a run and a job are checked by are in `Checks`.
use Rattle.std.specs.Prelude.{◌&&◌, not, List, ℕ, leb, ltb, eqb, ℤ, length}
use Rattle.base.specs.Rules.{Rule, rule, inside}
use Rattle.layer.specs.declared.shape.Layer.{Layer}
use Rattle.layer.specs.Shape.{map_count, kernel_count, output_count, full_height, full_width}
use Rattle.layer.specs.Planned.{added_fits, has_output, crop_fits}
use Rattle.load.specs.Load.{loads_fit}
use Rattle.load.specs.Offender.{offender_of}
use Rattle.load.specs.Blank.{none_blank}

module _ (l : Layer) where
  -- 1: the kind is CONV or TCONV
  abbrev pub kind_rule : Rule
  kind_rule = rule 1 (inside 0 1 l.kind)

  -- 2: the field is 4 or one up to the last that is taken
  abbrev pub field_rule : (last : ℕ) → Rule
  field_rule last = rule 2 (inside 4 last l.field)

  -- 3: C and M are 1 to 64
  abbrev pub channels_rule : Rule
  channels_rule = rule 3 (inside 1 64 l.inputs && inside 1 64 l.outputs)

  -- 4: H and W are 1 to 512
  abbrev pub map_rule : Rule
  map_rule = rule 4 (inside 1 512 l.height && inside 1 512 l.width)

  -- 5: K is 1 to 11
  abbrev pub side_rule : Rule
  side_rule = rule 5 (inside 1 11 l.side)

  -- 6: S is 1 to 4
  abbrev pub stride_rule : Rule
  stride_rule = rule 6 (inside 1 4 l.stride)

  -- 7: P is 0 to K − 1
  abbrev pub padding_rule : Rule
  padding_rule = rule 7 (ltb l.padding l.side)

  -- 23: the rows and the columns that are added are 0 in CONV, and below S
  abbrev pub added_rule : Rule
  added_rule = rule 23 (added_fits l l.below && added_fits l l.beside)

  -- 8: in CONV, H + 2P and W + 2P are not below K; in TCONV, E and F are not below 1
  abbrev pub output_rule : Rule
  output_rule = rule 8 (has_output l l.height l.below && has_output l l.width l.beside)

  -- 9: the crop keeps some rows and columns, and lies in the full output
  abbrev pub crop_rule : Rule
  crop_rule = rule 9 (crop_fits l.top l.rows (full_height l) && crop_fits l.left l.columns (full_width l))

  -- 10: the map has C·H·W values; `map` is how many it has
  abbrev pub map_length_rule : (map : ℕ) → Rule
  map_length_rule map = rule 10 (eqb map (map_count l))

  -- 11: the kernel has M·C·K² weights
  abbrev pub kernel_length_rule : (kernel : List ℤ) → Rule
  kernel_length_rule kernel = rule 11 (eqb (length kernel) (kernel_count l))

  -- 12: the output has M·h·w places
  abbrev pub output_length_rule : (output : ℕ) → Rule
  output_length_rule output = rule 12 (eqb output (output_count l))

  -- 14: A is 1 to 32,767
  abbrev pub peak_rule : Rule
  peak_rule = rule 14 (inside 1 32767 l.peak)

  -- 15: the first map value beyond the peak, if there is one, is not above A
  abbrev pub above_rule : (map : List ℤ) → Rule
  above_rule map = rule 15 (not (eqb (offender_of l map).side 1))

  -- 25: nor is it below −A
  abbrev pub below_rule : (map : List ℤ) → Rule
  below_rule map = rule 25 (not (eqb (offender_of l map).side 2))

  -- 24: no output channel is blank
  abbrev pub blank_rule : (kernel : List ℤ) → Rule
  blank_rule kernel = rule 24 (none_blank l kernel)

  -- 16: no output channel's load is above the limit
  abbrev pub loads_rule : (kernel : List ℤ) → Rule
  loads_rule kernel = rule 16 (loads_fit l kernel)

-- 13: scratch has the words that are used
abbrev pub scratch_rule : (words scratch : ℕ) → Rule
scratch_rule words scratch = rule 13 (leb words scratch)

-- 17: the job's index is not above the total
abbrev pub index_rule : (total next : ℕ) → Rule
index_rule total next = rule 17 (leb next total)
