-- `strip_origin` takes the place of the strip to the grid. Strips begin within what the crop keeps, so no coordinate is large.
use mathlib.Core.Path.{◌≡◌, ap, ap₂, ◌∙◌}
use Prim.Native.Nat.{ℕ, ◌+◌, ◌*◌, ◌≤◌}
use native.Mathlib.Nat.{mul-le-mul}
use native.Mathlib.Omega.{arith}
use Rattle.layer.specs.Shape.{grid_step}
use Rattle.layer.specs.Strip.{strip_length, strip_row, strip_column}
use Rattle.layer.specs.StripLaws.{strip_length_low, strip_length_high, strip_columns_high, strip_channel_lt, strip_row_lt, strip_column_lt}
use Rattle.layer.specs.PartLaws.{step_range}
use Rattle.layer.specs.PlaceLaws.{start_high}
use Rattle.strip.specs.Origin.{strip_first_row, strip_first_column}
use Rattle.strip.proofs.origin.strip_origin.Goals as goal
use Rattle.strip.proofs.origin.strip_origin.Goals.{After-grid_start-column, After-strip_length-length}

-- the place and the length are known
module _ (c : After-strip_length-length) where
  -- the output row is one of the full output
  row_high : c.args.layer.top + c.strip_place-place.result.row ≤ 2057
  row_high =
      let plan = c.requires.0 in
      omega (arith, c.strip_place-place.ensures.1, strip_row_lt _ plan c.args.strip, plan.rows_end, plan.full_height_high)

  length_high : c.strip_length-length.result ≤ 256
  length_high = omega (arith, c.strip_length-length.ensures, strip_length_high _ c.requires.0.shape)

  column_high : c.strip_place-place.result.column ≤ 8484
  column_high =
      let plan = c.requires.0 in
      omega (arith, c.strip_place-place.ensures.2, strip_column_lt _ plan c.args.strip, strip_columns_high _ plan)

pub overflow_add-layer : goal.overflow_add-layer
overflow_add-layer c = omega (arith, row_high (goal.at.overflow_add-layer c).After-strip_length-length)

pub grid_start-row-requires : goal.grid_start-row-requires
grid_start-row-requires c =
    let known = (goal.at.grid_start-row-requires c).After-strip_length-length in
    (c.requires.0.shape, omega (arith, row_high known), omega arith, length_high known)

pub grid_start-column-requires : goal.grid_start-column-requires
grid_start-column-requires c =
    let known = (goal.at.grid_start-column-requires c).After-strip_length-length in
    let plan = c.requires.0 in
    (plan.shape, omega (arith, plan.columns_end, plan.full_width_high), omega (arith, column_high known), length_high known)

-- the row and the column are known
module _ (c : After-grid_start-column) where
  row_is : let a = c.args in c.grid_start-row.result ≡ strip_first_row a.layer a.strip
  row_is =
      let l = c.args.layer in
      c.grid_start-row.ensures
      ∙ ap (λ (r : ℕ). (l.top + r) * grid_step l + 0 * c.strip_length-length.result) c.strip_place-place.ensures.1 ∙ omega arith

  column_is : let a = c.args in c.grid_start-column.result ≡ strip_first_column a.layer a.strip
  column_is =
      let l = c.args.layer in
      c.grid_start-column.ensures
      ∙ ap₂ (λ (k n : ℕ). l.left * grid_step l + k * n) c.strip_place-place.ensures.2 c.strip_length-length.ensures

  column_small : c.grid_start-column.result ≤ 10000
  column_small =
      let plan = c.requires.0 in
      let l = c.args.layer in
      omega (
        arith,
        column_is,
        start_high l (strip_length l) l.columns l.left (strip_column l c.args.strip) plan.shape
            (omega (arith, strip_length_low l plan.shape)) plan.columns_low (omega (arith, plan.columns_end, plan.full_width_high))
            (strip_column_lt l plan c.args.strip),
      )

  row_small : c.grid_start-row.result ≤ 10000
  row_small =
      let l = c.args.layer in
      let plan = c.requires.0 in
      let inside : l.top + strip_row l c.args.strip ≤ 2057 =
      omega (arith, strip_row_lt l plan c.args.strip, plan.rows_end, plan.full_height_high) in
      omega (arith, row_is, mul-le-mul inside (step_range l plan.shape).1)

pub shown_of-shown-requires : goal.shown_of-shown-requires
shown_of-shown-requires c = (c.requires.0.shape, column_small c, omega arith, omega arith)

pub returns : goal.returns
returns c =
    let found = (goal.at.returns c).After-grid_start-column in
    let place = c.strip_place-place.ensures in (
      record { channel = place.0; row = row_is found; column = column_is found },
      record {
        channel = omega (arith, place.0, strip_channel_lt _ c.requires.0 c.args.strip c.requires.1);
        row = row_small found;
        shows = c.shown_of-shown.ensures;
      },
    )
