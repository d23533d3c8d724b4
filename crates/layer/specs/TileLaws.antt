-- Laws of tiles: every output place lies in one tile below the total, which its square tells, and every tile below the total holds an
-- output place. They rest on the definitions of Shape and on the sizes of a planned layer.
use Rattle.std.specs.Prelude.{◌≡◌, ℕ, zero, suc, ◌+◌, ◌*◌, ◌/◌, ◌%◌, ◌<◌, ◌≤◌}
use Rattle.std.proofs.Math.Path.{sym}
use Rattle.std.proofs.Common.{ap, ap₂, ◌∙◌, div-lt_iff_lt-mul, div-add-mod', mod-lt, arith}
use Rattle.std.proofs.Math.Arith.{digits_lt, digits_div, digits_mod}
use Rattle.base.specs.NumberLaws.{quotient_low, quotient_high, quotient_is}
use Rattle.base.specs.Number.{ceiling_div}
use Rattle.layer.specs.Planned.{Planned}
use Rattle.layer.specs.declared.shape.Layer.{Layer}
use Rattle.layer.specs.TileSizeLaws.{tile_side_low}
use Rattle.layer.specs.PartLaws.{Held, step_range, wanted_lt, part_some, part_held}
use Rattle.layer.specs.Shape.{tile_side, grid_step, span, tile_rows, tile_columns, tile_total, channel_of, row_of, column_of, tile_of, tile_channel, tile_row, tile_column}

-- ---- on the output of a layer

-- the facts of a planned layer that its tiles need
pub record Tiled (l : Layer) : Type 0 where
  pub rows : 0 < l.rows
  pub columns : 0 < l.columns
  pub step : 0 < grid_step l
  pub wide : grid_step l ≤ tile_side l

pub planned_tiled : (l : Layer) → Planned l → Tiled l
planned_tiled l p =
    let (low, high) = step_range l p.shape in
    record {
      rows = p.rows_low;
      columns = p.columns_low;
      step = low;
      wide = omega (arith, tile_side_low l p.shape);
    }

-- place p lies in the L by L square of tile t
pub record InTile (l : Layer) (t p : ℕ) : Type 0 where
  pub channel : channel_of l p ≡ tile_channel l t
  pub row_low : tile_row l t * tile_side l ≤ row_of l p * grid_step l
  pub row_high : row_of l p * grid_step l < tile_row l t * tile_side l + tile_side l
  pub column_low : tile_column l t * tile_side l ≤ column_of l p * grid_step l
  pub column_high : column_of l p * grid_step l < tile_column l t * tile_side l + tile_side l

module _ (l : Layer) (tiled : Tiled l) where
  side_some : 0 < tile_side l
  side_some = omega (arith, tiled.step, tiled.wide)

  -- of the tiles across
  line_lt : (count e : ℕ) → e < count → e * grid_step l / tile_side l < ceiling_div (span l count) (tile_side l)
  line_lt count e h = wanted_lt l (tile_side l) count e side_some h

  plane : 0 < l.rows * l.columns
  plane = above l.rows l.columns tiled.rows tiled.columns
    where
      above : (a b : ℕ) → 0 < a → 0 < b → 0 < a * b
      above (suc a) (suc b) _ _ = omega arith
      above zero b h _ = absurd (omega arith)
      above (suc a) zero _ h = absurd (omega arith)

  pub row_lt : (p : ℕ) → row_of l p < l.rows
  row_lt p = (div-lt_iff_lt-mul tiled.columns).1 (mod-lt p plane)

  pub column_lt : (p : ℕ) → column_of l p < l.columns
  column_lt p = mod-lt (p % (l.rows * l.columns)) tiled.columns

  pub channel_lt : (p : ℕ) → p < l.outputs * (l.rows * l.columns) → channel_of l p < l.outputs
  channel_lt p h = (div-lt_iff_lt-mul plane).1 h

  -- every output place lies in a tile below the total
  pub tile_of_lt : (p : ℕ) → p < l.outputs * (l.rows * l.columns) → tile_of l p < tile_total l
  unfolding tile_of tile_total
  tile_of_lt p h =
      digits_lt (digits_lt (channel_lt p h) (line_lt l.rows (row_of l p) (row_lt p)))
      (line_lt l.columns (column_of l p) (column_lt p))

  -- the square of that tile, and of no other, holds the place
  pub to_tile : (t p : ℕ) → tile_of l p ≡ t → InTile l t p
  unfolding tile_of
  to_tile t p e = record {
    channel = sym (digits_div (channel_of l p) row) ∙ sym (ap (λ (k : ℕ). k / tile_rows l) rest);
    row_low = quotient_low (tile_side l) _ _ down;
    row_high = quotient_high (tile_side l) _ _ side_some down;
    column_low = quotient_low (tile_side l) _ _ across;
    column_high = quotient_high (tile_side l) _ _ side_some across;
  }
    where
      row : row_of l p * grid_step l / tile_side l < tile_rows l
      row = line_lt l.rows (row_of l p) (row_lt p)

      column : column_of l p * grid_step l / tile_side l < tile_columns l
      column = line_lt l.columns (column_of l p) (column_lt p)

      rest : t / tile_columns l ≡ channel_of l p * tile_rows l + row_of l p * grid_step l / tile_side l
      rest = ap (λ (k : ℕ). k / tile_columns l) (sym e) ∙ digits_div _ column

      down : row_of l p * grid_step l / tile_side l ≡ tile_row l t
      down = sym (digits_mod (channel_of l p) row) ∙ sym (ap (λ (k : ℕ). k % tile_rows l) rest)

      across : column_of l p * grid_step l / tile_side l ≡ tile_column l t
      across = sym (digits_mod _ column) ∙ ap (λ (k : ℕ). k % tile_columns l) e

-- the index of a tile from its channel, row and column
whole : (l : Layer) (t : ℕ) → (tile_channel l t * tile_rows l + tile_row l t) * tile_columns l + tile_column l t ≡ t
whole l t =
    ap (λ (k : ℕ). k * tile_columns l + tile_column l t) (div-add-mod' (t / tile_columns l) (tile_rows l)) ∙ div-add-mod' t (tile_columns l)

pub from_tile : (l : Layer) (t p : ℕ) → InTile l t p → tile_of l p ≡ t
unfolding tile_of
from_tile l t p in_tile =
    ap (λ (k : ℕ). (channel_of l p * tile_rows l + k) * tile_columns l + column_of l p * grid_step l / tile_side l)
    (quotient_is (tile_side l) _ _ in_tile.row_low in_tile.row_high)
    ∙ ap (λ (k : ℕ). (channel_of l p * tile_rows l + tile_row l t) * tile_columns l + k)
    (quotient_is (tile_side l) _ _ in_tile.column_low in_tile.column_high)
    ∙ ap (λ (k : ℕ). (k * tile_rows l + tile_row l t) * tile_columns l + tile_column l t) in_tile.channel
    ∙ whole l t

-- ---- every tile below the total holds a place

pub record Place (l : Layer) (t : ℕ) : Type 0 where
  pub place : ℕ
  pub below : place < l.outputs * (l.rows * l.columns)
  pub tile : tile_of l place ≡ t

-- a wanted row or column in tile t of a line of tiles
pub line_held : (l : Layer) → Tiled l → (count t : ℕ) → 0 < count → t < ceiling_div (span l count) (tile_side l)
    → Held (tile_side l) (grid_step l) count t
line_held l tiled count t some h = part_held l (tile_side l) count t tiled.step tiled.wide some h

pub line_some : (l : Layer) → Tiled l → (count : ℕ) → 0 < count → 0 < ceiling_div (span l count) (tile_side l)
line_some l tiled count some = part_some l (tile_side l) count (side_some l tiled) some

module _ (l : Layer) (planned : Planned l) where
  pub tile_rows_some : 0 < tile_rows l
  tile_rows_some = line_some l (planned_tiled l planned) l.rows planned.rows_low

  pub tile_columns_some : 0 < tile_columns l
  tile_columns_some = line_some l (planned_tiled l planned) l.columns planned.columns_low

pub tile_channel_lt : (l : Layer) → Tiled l → (t : ℕ) → t < tile_total l → tile_channel l t < l.outputs
unfolding tile_total
tile_channel_lt l tiled t h =
    (div-lt_iff_lt-mul (line_some l tiled l.rows tiled.rows)).1
    ((div-lt_iff_lt-mul (line_some l tiled l.columns tiled.columns)).1 h)

pub tile_held : (l : Layer) → Tiled l → (t : ℕ) → t < tile_total l → Place l t
unfolding tile_total tile_of
tile_held l tiled t h = record {
  place = place;
  below = digits_lt channel inner;
  tile =
      ap (λ (k : ℕ). (k * tile_rows l + row_of l place * grid_step l / tile_side l) * tile_columns l + column_of l place * grid_step l / tile_side l)
      (digits_div (tile_channel l t) inner)
      ∙ ap (λ (k : ℕ). (tile_channel l t * tile_rows l + k / l.columns * grid_step l / tile_side l) * tile_columns l + k % l.columns * grid_step l / tile_side l) plane
      ∙ ap₂ (λ (e f : ℕ). (tile_channel l t * tile_rows l + e * grid_step l / tile_side l) * tile_columns l + f * grid_step l / tile_side l)
      (digits_div row.place column.below) (digits_mod row.place column.below)
      ∙ ap₂ (λ (e f : ℕ). (tile_channel l t * tile_rows l + e) * tile_columns l + f) row.part column.part
      ∙ whole l t;
}
  where
    rows_some : 0 < tile_rows l
    rows_some = line_some l tiled l.rows tiled.rows

    columns_some : 0 < tile_columns l
    columns_some = line_some l tiled l.columns tiled.columns

    channel : tile_channel l t < l.outputs
    channel = tile_channel_lt l tiled t h

    row : Held (tile_side l) (grid_step l) l.rows (tile_row l t)
    row = line_held l tiled l.rows (tile_row l t) tiled.rows (mod-lt (t / tile_columns l) rows_some)

    column : Held (tile_side l) (grid_step l) l.columns (tile_column l t)
    column = line_held l tiled l.columns (tile_column l t) tiled.columns (mod-lt t columns_some)

    inner : row.place * l.columns + column.place < l.rows * l.columns
    inner = digits_lt row.below column.below

    place : ℕ
    place = tile_channel l t * (l.rows * l.columns) + (row.place * l.columns + column.place)

    plane : place % (l.rows * l.columns) ≡ row.place * l.columns + column.place
    plane = digits_mod (tile_channel l t) inner
