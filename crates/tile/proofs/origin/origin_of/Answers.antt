-- `origin_of` takes the place of the tile to the grid. The tiles begin within what the crop keeps, so no coordinate is large.
use mathlib.Core.Path.{ap₂, ◌∙◌}
use Prim.Native.Nat.{ℕ, ◌+◌, ◌*◌, ◌<◌, ◌≤◌}
use native.Mathlib.Omega.{arith}
use Rattle.layer.specs.Shape.{tile_side, grid_step, tile_row, tile_column}
use Rattle.layer.specs.TileSizeLaws.{rows_wanted, columns_wanted, across_high, tile_side_low, tile_side_high}
use Rattle.layer.specs.TileLaws.{planned_tiled, tile_channel_lt}
use Rattle.layer.specs.PlaceLaws.{tile_row_lt, tile_column_lt, start_high}
use Rattle.tile.proofs.origin.origin_of.Goals as goal
use Rattle.tile.proofs.origin.origin_of.Goals.{After-tile_side-side}

-- the place and the side of a tile are known
module _ (c : After-tile_side-side) where
  side_high : c.tile_side-side.result ≤ 256
  side_high = omega (arith, c.tile_side-side.ensures, tile_side_high _ c.requires.0.shape)

  side_low : 0 < tile_side c.args.layer
  side_low = omega (arith, tile_side_low _ c.requires.0.shape)

pub grid_start-requires : goal.grid_start-requires
grid_start-requires c =
    let l = c.args.layer in
    let plan = c.requires.0 in (
      plan.shape,
      omega (arith, plan.rows_end, plan.full_height_high),
      omega (arith, c.place_of-place.ensures.1, tile_row_lt l plan c.args.tile, across_high l l.rows (rows_wanted l plan)),
      side_high c,
    )

pub grid_start-requires-2 : goal.grid_start-requires-2
grid_start-requires-2 c =
    let l = c.args.layer in
    let plan = c.requires.0 in (
      plan.shape,
      omega (arith, plan.columns_end, plan.full_width_high),
      omega (arith, c.place_of-place.ensures.2, tile_column_lt l plan c.args.tile, across_high l l.columns (columns_wanted l plan)),
      side_high (goal.at.grid_start-requires-2 c).After-tile_side-side,
    )

pub returns : goal.returns
returns c =
    let l = c.args.layer in
    let t = c.args.tile in
    let plan = c.requires.0 in
    let place = c.place_of-place.ensures in
    let some = side_low (goal.at.returns c).After-tile_side-side in
    let row = c.grid_start.ensures ∙ ap₂ (λ (i n : ℕ). l.top * grid_step l + i * n) place.1 c.tile_side-side.ensures in
    let column = c.grid_start-2.ensures ∙ ap₂ (λ (i n : ℕ). l.left * grid_step l + i * n) place.2 c.tile_side-side.ensures in record {
      channel_value = (place.0, row, column);
      origin_in_range = record {
        channel = omega (arith, place.0, tile_channel_lt l (planned_tiled l plan) t c.requires.1);
        row = omega (
          arith,
          row,
          start_high l (tile_side l) l.rows l.top (tile_row l t) plan.shape some plan.rows_low
              (omega (arith, plan.rows_end, plan.full_height_high)) (tile_row_lt l plan t),
        );
        column = omega (
          arith,
          column,
          start_high l (tile_side l) l.columns l.left (tile_column l t) plan.shape some plan.columns_low
              (omega (arith, plan.columns_end, plan.full_width_high)) (tile_column_lt l plan t),
        );
      };
    }
