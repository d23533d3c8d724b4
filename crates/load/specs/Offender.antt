-- 02, E11: the first map value beyond the peak in stored order, which is channel, then row, then column: its place and its side.
use Rattle.std.specs.Prelude.{◌≡◌, cond, List, [], ◌∷◌, ℕ, suc, ◌+◌, ◌*◌, ◌≤◌, ◌<◌, leb, ℤ, pos, negsuc, nat_abs, Option, None, Some}
use Rattle.algebra.specs.Planes.{cell, stacked_at}
use Rattle.layer.specs.declared.shape.Layer.{Layer}
use Rattle.load.specs.declared.offender.Offender.{Offender}
use Rattle.load.specs.declared.offender.Side.{Side}
use Rattle.load.specs.declared.offender.Side.TheVariants.{Above, Below}
use Rattle.load.specs.Load.{within_peak}

-- the side of a value: 1 above A, 2 below −A, 0 within
abbrev pub side_of : (peak : ℕ) → ℤ → ℕ
side_of peak (pos n) = cond (leb n peak) 0 1
side_of peak (negsuc n) = cond (leb (suc n) peak) 0 2

-- the number that an offender tells of a side, 0 where there is none
abbrev pub side_number : Option Side → ℕ
side_number None = 0
side_number (Some Above) = 1
side_number (Some Below) = 2

-- how many values stand before the first one whose size is beyond A
unfoldable pub first_beyond : (peak : ℕ) → List ℤ → ℕ
first_beyond peak [] = 0
first_beyond peak (value ∷ values) = cond (leb (nat_abs value) peak) (first_beyond peak values + 1) 0

-- zeros
abbrev pub no_offender : Offender
no_offender = record { channel = 0; row = 0; column = 0; side = 0 }

-- the value at a channel, row and column of the map
abbrev pub offender_at : Layer → (map : List ℤ) → (channel row column : ℕ) → Offender
offender_at l map channel row column = record {
  channel = channel;
  row = row;
  column = column;
  side = side_of l.peak (cell l.height l.width map channel row column);
}

-- the first value beyond the peak; zeros where there is none
unfoldable pub offender_of : Layer → (map : List ℤ) → Offender
offender_of l map =
    cond (within_peak l.peak map) no_offender (stacked_at l.height l.width (offender_at l map) (first_beyond l.peak map))

-- stored order: the flat place of a channel, row and column of the map
abbrev pub stored : Layer → (channel row column : ℕ) → ℕ
stored l channel row column = (channel * l.height + row) * l.width + column

-- what is to hold of it, in the request's words: the place is one of the map's, the value there is beyond the peak on that side, and no value stored
-- before it is
pub record Offends (l : Layer) (map : List ℤ) (o : Offender) : Type 0 where
  pub channel_in : o.channel < l.inputs
  pub row_in : o.row < l.height
  pub column_in : o.column < l.width
  pub beyond : l.peak < nat_abs (cell l.height l.width map o.channel o.row o.column)
  pub side_is : o.side ≡ side_of l.peak (cell l.height l.width map o.channel o.row o.column)
  pub before : (channel row column : ℕ) → stored l channel row column < stored l o.channel o.row o.column
      → nat_abs (cell l.height l.width map channel row column) ≤ l.peak
