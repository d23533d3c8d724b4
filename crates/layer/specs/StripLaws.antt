-- Laws of strips: every output place lies in one strip below the total, which its row and its place along the row tell, and every strip below the
-- total holds an output place; and bounds of a layer's strip figures. They rest on the laws of parts along a line and of tiles.
use Rattle.std.specs.Prelude.{◌≡◌, ℕ, ◌+◌, ◌*◌, ◌/◌, ◌%◌, ◌<◌, ◌≤◌}
use Rattle.std.proofs.Math.Path.{sym, ap}
use Rattle.std.proofs.Common.{◌∙◌, div-lt_iff_lt-mul, mod-lt, arith}
use Rattle.std.proofs.Math.Nat.{div-add-mod', mul-le-mul}
use Rattle.std.proofs.Math.Arith.{digits_lt, digits_div, digits_mod}
use Rattle.algebra.specs.Planes.{stacked_at}
use Rattle.algebra.specs.PlanesLaws.{stacked_at_lem}
use Rattle.base.specs.NumberLaws.{quotient_low, quotient_high, quotient_is}
use Rattle.layer.specs.declared.shape.Layer.{Layer}
use Rattle.layer.specs.Planned.{InRange, Planned}
use Rattle.layer.specs.Shape.{grid_step, channel_of, row_of, column_of}
use Rattle.layer.specs.Strip.{strip_length, strip_columns, strip_total, strip_of, strip_channel, strip_row, strip_column}
use Rattle.layer.specs.TileSizeLaws.{columns_wanted, parts_high}
use Rattle.layer.specs.CountLaws.{output_rows_high}
use Rattle.layer.specs.PartLaws.{Held, step_range, wanted_lt, part_some, part_held}
use Rattle.layer.specs.TileLaws.{Tiled, planned_tiled, row_lt, column_lt, channel_lt}

-- ---- bounds

module _ (l : Layer) (r : InRange l) where
  pub strip_length_low : 246 ≤ strip_length l
  strip_length_low = omega (arith, r.side_high)

  pub strip_length_high : strip_length l ≤ 256
  strip_length_high = omega (arith, r.side_low)

module _ (l : Layer) (plan : Planned l) where
  some : 0 < strip_length l
  some = omega (arith, strip_length_low l plan.shape)

  pub strip_columns_some : 0 < strip_columns l
  strip_columns_some = part_some l (strip_length l) l.columns some plan.columns_low

  pub strip_columns_high : strip_columns l ≤ 8484
  strip_columns_high = parts_high l l.columns (columns_wanted l plan) (strip_length l) (strip_length_high l plan.shape)

  -- the count of strips does not wrap
  pub strip_total_high : strip_total l ≤ 131712 * 8484
  unfolding strip_total
  strip_total_high = mul-le-mul (output_rows_high l plan) strip_columns_high

  -- ---- where a strip stands

  pub strip_channel_lt : (t : ℕ) → t < strip_total l → strip_channel l t < l.outputs
  unfolding strip_total
  strip_channel_lt t h = (div-lt_iff_lt-mul plan.rows_low).1 ((div-lt_iff_lt-mul strip_columns_some).1 h)

  pub strip_row_lt : (t : ℕ) → strip_row l t < l.rows
  strip_row_lt t = mod-lt (t / strip_columns l) plan.rows_low

  pub strip_column_lt : (t : ℕ) → strip_column l t < strip_columns l
  strip_column_lt t = mod-lt t strip_columns_some

-- place p lies in strip t: in its channel and row, and among the row's L places of the grid
pub record InStrip (l : Layer) (t p : ℕ) : Type 0 where
  pub channel : channel_of l p ≡ strip_channel l t
  pub row : row_of l p ≡ strip_row l t
  pub column_low : strip_column l t * strip_length l ≤ column_of l p * grid_step l
  pub column_high : column_of l p * grid_step l < strip_column l t * strip_length l + strip_length l

module _ (l : Layer) (plan : Planned l) where
  tiled : Tiled l
  tiled = planned_tiled l plan

  column : (p : ℕ) → column_of l p * grid_step l / strip_length l < strip_columns l
  column p = wanted_lt l (strip_length l) l.columns (column_of l p) (some l plan) (column_lt l tiled p)

  -- every output place lies in a strip below the total
  pub strip_of_lt : (p : ℕ) → p < l.outputs * (l.rows * l.columns) → strip_of l p < strip_total l
  unfolding strip_of strip_total
  strip_of_lt p below = digits_lt (digits_lt (channel_lt l tiled p below) (row_lt l tiled p)) (column p)

  -- that strip, and no other, holds it
  pub to_strip : (t p : ℕ) → strip_of l p ≡ t → InStrip l t p
  unfolding strip_of
  to_strip t p e = record {
    channel = sym (digits_div (channel_of l p) (row_lt l tiled p)) ∙ sym (ap (λ (k : ℕ). k / l.rows) line);
    row = sym (digits_mod (channel_of l p) (row_lt l tiled p)) ∙ sym (ap (λ (k : ℕ). k % l.rows) line);
    column_low = quotient_low (strip_length l) _ _ across;
    column_high = quotient_high (strip_length l) _ _ (some l plan) across;
  }
    where
      line : t / strip_columns l ≡ channel_of l p * l.rows + row_of l p
      line = ap (λ (k : ℕ). k / strip_columns l) (sym e) ∙ digits_div _ (column p)

      across : column_of l p * grid_step l / strip_length l ≡ strip_column l t
      across = sym (digits_mod _ (column p)) ∙ ap (λ (k : ℕ). k % strip_columns l) e

  pub from_strip : (t p : ℕ) → InStrip l t p → strip_of l p ≡ t
  unfolding strip_of
  from_strip t p i =
      rw (i.channel, i.row, quotient_is (strip_length l) _ _ i.column_low i.column_high)
      (ap (λ (k : ℕ). k * strip_columns l + strip_column l t) (div-add-mod' (t / strip_columns l) l.rows) ∙ div-add-mod' t (strip_columns l))

-- ---- every strip below the total holds a place

pub record StripPlace (l : Layer) (t : ℕ) : Type 0 where
  pub place : ℕ
  pub below : place < l.outputs * l.rows * l.columns
  pub strip : strip_of l place ≡ t

pub strip_held : (l : Layer) → Planned l → (t : ℕ) → t < strip_total l → StripPlace l t
strip_held l plan t h = record {
  place = (strip_channel l t * l.rows + strip_row l t) * l.columns + one.place;
  below = digits_lt (digits_lt (strip_channel_lt l plan t h) (strip_row_lt l plan t)) one.below;
  strip = from_strip l plan t _ (record {
    channel = at (λ m r e. m);
    row = at (λ m r e. r);
    column_low = rw (at (λ m r e. e)) (quotient_low (strip_length l) _ _ one.part);
    column_high = rw (at (λ m r e. e)) (quotient_high (strip_length l) _ _ (some l plan) one.part);
  });
}
  where
    steps : (0 < grid_step l) × (grid_step l ≤ 4)
    steps = step_range l plan.shape

    one : Held (strip_length l) (grid_step l) l.columns (strip_column l t)
    one =
        part_held l (strip_length l) l.columns (strip_column l t) steps.0 (omega (arith, steps, strip_length_low l plan.shape)) plan.columns_low
        (strip_column_lt l plan t)

    at : (part : ℕ → ℕ → ℕ → ℕ)
        → stacked_at l.rows l.columns part ((strip_channel l t * l.rows + strip_row l t) * l.columns + one.place)
        ≡ part (strip_channel l t) (strip_row l t) one.place
    at part = stacked_at_lem l.rows l.columns part (strip_channel l t) (strip_row l t) one.place (strip_row_lt l plan t) one.below
