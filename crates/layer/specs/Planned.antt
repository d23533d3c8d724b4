-- What the rules 1 to 9 and 23 give of a layer: figures in range, a full output, and a crop that lies in it. Contracts of what is computed from a
-- layer ask for it. The laws are in `PlannedLaws`.
use Rattle.std.specs.Prelude.{◌≡◌, Bool, true, ◌&&◌, cond, ℕ, ◌+◌, ◌*◌, ◌≤◌, ◌<◌, leb, ltb, eqb}
use Rattle.layer.specs.declared.shape.Layer.{Layer}
use Rattle.layer.specs.Shape.{is_conv, tconv_size, full_height, full_width}

-- ---- the tests of the rules 23, 8 and 9

-- 23: what is added is 0 in CONV, and below S
abbrev pub added_fits : Layer → ℕ → Bool
added_fits l added = cond (is_conv l) (eqb added 0) true && ltb added l.stride

-- 8: in CONV, H + 2P is not below K; in TCONV, E is not below 1
abbrev pub has_output : Layer → (extent added : ℕ) → Bool
has_output l extent added =
    cond (is_conv l) (leb l.side (extent + 2 * l.padding)) (leb 1 (tconv_size extent l.side l.stride l.padding added))

-- 9: some are kept, and the last one lies within the full output
unfoldable pub crop_fits : (first count full : ℕ) → Bool
crop_fits first count full = leb 1 count && leb (first + count) full

-- ---- what the rules give

-- 1 to 7 and 23
pub record InRange (l : Layer) : Type 0 where
  pub kind_high : l.kind ≤ 1
  pub field_low : 4 ≤ l.field
  pub field_high : l.field ≤ 5
  pub inputs_low : 1 ≤ l.inputs
  pub inputs_high : l.inputs ≤ 64
  pub outputs_low : 1 ≤ l.outputs
  pub outputs_high : l.outputs ≤ 64
  pub height_low : 1 ≤ l.height
  pub height_high : l.height ≤ 512
  pub width_low : 1 ≤ l.width
  pub width_high : l.width ≤ 512
  pub side_low : 1 ≤ l.side
  pub side_high : l.side ≤ 11
  pub stride_low : 1 ≤ l.stride
  pub stride_high : l.stride ≤ 4
  pub padding_high : l.padding < l.side
  pub below_high : l.below < l.stride
  pub beside_high : l.beside < l.stride

-- a map's height or width, and the rows or columns that are added, are in their ranges
pub record ExtentInRange (l : Layer) (extent added : ℕ) : Type 0 where
  pub shape : InRange l
  pub low : 1 ≤ extent
  pub high : extent ≤ 512
  pub added_high : added < l.stride

-- rule 8 holds of them besides: no difference in the full output size is below 0
pub record Outputs (l : Layer) (extent added : ℕ) : Type 0 where
  pub in_range : ExtentInRange l extent added
  pub some : has_output l extent added ≡ true

-- 1 to 9 and 23, and bounds of the full output
pub record Planned (l : Layer) : Type 0 where
  pub shape : InRange l
  pub height_output : Outputs l l.height l.below
  pub width_output : Outputs l l.width l.beside
  pub rows_low : 1 ≤ l.rows
  pub rows_end : l.top + l.rows ≤ full_height l
  pub columns_low : 1 ≤ l.columns
  pub columns_end : l.left + l.columns ≤ full_width l
  pub full_height_high : full_height l ≤ 2058
  pub full_width_high : full_width l ≤ 2058

-- `count` is in the range of the rows or columns that are kept
pub record Wanted (l : Layer) (count : ℕ) : Type 0 where
  pub shape : InRange l
  pub count_low : 1 ≤ count
  pub count_high : count ≤ 2058
