-- The places of tile t in the part of the output that is lent to `store_rows`, which begins at the first row of the tile's channel.
-- It rests on the laws of tiles, of what a part holds and of written places.
use mathlib.Core.Path.{◌≡◌, ap, ap₂, ◌∙◌}
use mathlib.Core.List.{List}
use Prim.Native.Nat.{ℕ, ◌+◌, ◌*◌, ◌-◌, ◌/◌, ◌%◌, ◌<◌, ◌≤◌}
use native.Mathlib.Nat.{div-add-mod', div-lt_iff_lt-mul, mul_assoc, mul-le-mul_right, suc-mul}
use native.Mathlib.Omega.{arith}
use lib.Arith.{digits_div, digits_mod}
use lib.IntN.{ℤ, pos}
use lib.ListN.{length}
use borrow.Rule.Slice.PartMut.{mid_of, put_mid}
use Rattle.algebra.specs.Places.{Written}
use Rattle.algebra.specs.PlacesLaws.{written_as, written_part}
use Rattle.fermat.specs.Field.{transform_length}
use Rattle.passes.specs.Halving.{word}
use Rattle.spectrum.specs.Value.{offset_of, less_offset, Storable}
use Rattle.layer.specs.Planned.{Planned}
use Rattle.layer.specs.declared.shape.Layer.{Layer}
use Rattle.layer.specs.Shape.{tile_side, row_of, column_of, tile_of, tile_channel, tile_row, tile_column}
use Rattle.layer.specs.TileSizeLaws.{length_low}
use Rattle.layer.specs.TileLaws.{Tiled, InTile, planned_tiled, row_lt, column_lt, to_tile, from_tile}
use Rattle.store.specs.declared.Held.{Held}
use Rattle.store.specs.Stored.{word_of, stored_at}
use Rattle.store.specs.Held.{HeldBy, WithWords, held_word, InRows, RowsStorable, RowsStored}
use Rattle.store.specs.HeldLaws.{word_at, word_lt}

-- the words of the rows or columns that a tile of a line holds are among its N by N
pub with_words : (l : Layer) → Planned l → (t count : ℕ) (h : Held) → HeldBy l (tile_side l) t count h → WithWords l h
with_words l p t count h by =
    let last = word_lt l (tile_side l) t count h by (h.count - 1) (omega (arith, by.some)) in
    omega (arith, length_low l p.shape, p.shape.side_high, p.shape.side_low)

-- ---- the places

-- the tile's channel ends within the output
pub channel_end : (l : Layer) (t : ℕ) → tile_channel l t < l.outputs
    → tile_channel l t * (l.rows * l.columns) + l.rows * l.columns ≤ l.outputs * l.rows * l.columns
channel_end l t below =
    let plane : ℕ = l.rows * l.columns in
    omega (arith, mul-le-mul_right plane below, suc-mul (tile_channel l t) plane, mul_assoc l.outputs l.rows l.columns)

module _ (l : Layer) (planned : Planned l) (t : ℕ) (rows columns : Held)
    (in_rows : HeldBy l (tile_side l) (tile_row l t) l.rows rows) (in-columns : HeldBy l (tile_side l) (tile_column l t) l.columns columns)
    (from : ℕ) (from_is : from ≡ tile_channel l t * (l.rows * l.columns)) where
  -- a place of the rows and columns held is one of the channel
  in_channel : (q : ℕ) → InRows l rows columns rows.count q → q < l.rows * l.columns
  in_channel q (row, column) = (div-lt_iff_lt-mul planned.columns_low).0 (omega (arith, in_rows.short))

  -- and lies in the tile
  in_tile : (q : ℕ) → InRows l rows columns rows.count q → InTile l t (from + q)
  in_tile q (row, column) =
      let inside = in_channel q (row, column) in
      let place : from + q ≡ tile_channel l t * (l.rows * l.columns) + q = omega (arith, from_is) in
      let plane : (from + q) % (l.rows * l.columns) ≡ q = ap (λ (k : ℕ). k % (l.rows * l.columns)) place ∙ digits_mod (tile_channel l t) inside in
      let (row_low, row_high) = in_rows.inside (q / l.columns) row in
      let (column_low, column_high) = in-columns.inside (q % l.columns) column in
      record {
        channel = ap (λ (k : ℕ). k / (l.rows * l.columns)) place ∙ digits_div (tile_channel l t) inside;
        row_low = rw plane row_low;
        row_high = rw plane row_high;
        column_low = rw plane column_low;
        column_high = rw plane column_high;
      }

  -- every place of the tile is one of the channel, and there of the rows and columns held
  in_part : (p : ℕ) → InTile l t p → from + p % (l.rows * l.columns) ≡ p
  in_part p i = omega (arith, from_is, ap (λ (k : ℕ). k * (l.rows * l.columns)) i.channel, div-add-mod' p (l.rows * l.columns))

  held : (p : ℕ) → InTile l t p → InRows l rows columns rows.count (p - from)
  held p i =
      let tiled = planned_tiled l planned in
      let inner : p - from ≡ p % (l.rows * l.columns) = omega (arith, in_part p i) in
      rw inner (
        in_rows.all (row_of l p) (row_lt l tiled p) (i.row_low, i.row_high),
        in-columns.all (column_of l p) (column_lt l tiled p) (i.column_low, i.column_high),
      )

  -- so the words are the same
  module _ (words : List ℕ) where
    same_word : (p : ℕ) → InTile l t p
        → held_word l rows columns ((p - from) / l.columns - rows.first) ((p - from) % l.columns - columns.first) words ≡ word_of l t p words
    same_word p i =
        let inner : p - from ≡ p % (l.rows * l.columns) = omega (arith, in_part p i) in
        let (row, column) = rw inner at (held p i) in
        rw inner (ap₂ (λ (a b : ℕ). word (transform_length l.field) a b words)
        (word_at l (tile_side l) (tile_row l t) l.rows rows in_rows (row_of l p) row)
        (word_at l (tile_side l) (tile_column l t) l.columns columns in-columns (column_of l p) column))

    -- what is asked of the tile's places is asked of the rows
    pub rows_fit : {n : ℕ} → from + l.rows * l.columns ≤ n
        → ((p : ℕ) → p < n → tile_of l p ≡ t → Storable (offset_of l.field) (word_of l t p words)) → RowsStorable l rows columns words
    rows_fit room fit r f below left =
        let e : ℕ = rows.first + r in
        let column : ℕ = columns.first + f in
        let q : ℕ = e * l.columns + column in
        let right : column < l.columns = omega (arith, in-columns.short) in
        let row : q / l.columns ≡ e = digits_div e right in
        let across : q % l.columns ≡ column = digits_mod e right in
        let here : InRows l rows columns rows.count q = rw (row, across) ((omega arith, omega arith), (omega arith, omega arith)) in
        let i = in_tile q here in
        let inner : from + q - from ≡ q = omega arith in
        let up : e - rows.first ≡ r = omega arith in
        let back : column - columns.first ≡ f = omega arith in
        omega (
          arith,
          fit (from + q) (omega (arith, in_channel q here)) (from_tile l t (from + q) i),
          rw (inner, row, across, up, back) at (same_word (from + q) i),
        )

    -- and the rows stored are the tile stored
    pub tile_stored : {xs ys : List ℤ} → from ≤ length xs
        → RowsStored l rows columns rows.count words (mid_of from (length xs - from) xs) ys
        → Written (pos 0) (λ p. tile_of l p ≡ t) (stored_at l t words) xs (put_mid from (length xs - from) xs ys)
    tile_stored {xs} room stored =
        written_as (written_part from (length xs - from) (omega arith) stored)
        (λ p below e. let i = to_tile l tiled t p e in ((omega (arith, in_part p i), omega arith), held p i))
        (λ p h. let e : from + (p - from) ≡ p = omega (arith, h.0) in from_tile l t p (rw e at (in_tile (p - from) h.1)))
        (λ p below e. ap (less_offset (offset_of l.field)) (same_word p (to_tile l tiled t p e)))
      where
        tiled : Tiled l
        tiled = planned_tiled l planned
