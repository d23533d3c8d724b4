-- `store_tile` finds what the tile holds and lends its channel. That the rows stored are the tile stored is shown in HeldPlaces.
use mathlib.Core.Path.{◌≡◌, ap, subst}
use Prim.Native.Nat.{ℕ, ◌+◌, ◌-◌, ◌*◌, ◌≤◌, ◌<◌}
use native.Mathlib.Nat.{mul-le-mul_right}
use native.Mathlib.Omega.{arith}
use lib.ListN.{length, drop, length-drop}
use lib.Seq.{length-take-le}
use Rattle.base.specs.Number.{ceiling_div}
use Rattle.layer.specs.Shape.{tile_side, grid_step, span, tile_channel, tile_row, tile_column}
use Rattle.layer.specs.TileSizeLaws.{tile_side_high, rows_wanted, columns_wanted}
use Rattle.layer.specs.TileLaws.{planned_tiled, tile_channel_lt}
use Rattle.layer.specs.PlaceLaws.{tile_row_lt, tile_column_lt}
use Rattle.store.specs.Held.{HeldBy}
use Rattle.store.proofs.HeldPlaces.{with_words, channel_end, rows_fit, tile_stored}
use Rattle.store.proofs.store_tile.Goals as goal
use Rattle.store.proofs.store_tile.Goals.{After-held_in-columns, After-held_in-rows, After-tile_side-side}

-- the rows held, by the definition
module _ (c : After-held_in-rows) where
  rows_held : let a = c.args in HeldBy a.layer (tile_side a.layer) (tile_row a.layer a.tile) a.layer.rows c.held_in-rows.result
  rows_held =
      let a = c.args in
      subst (λ (side : ℕ). HeldBy a.layer side (tile_row a.layer a.tile) a.layer.rows c.held_in-rows.result)
      c.tile_side-side.ensures (rw c.place_of-place.ensures.1 at c.held_in-rows.ensures)

-- the columns held
module _ (c : After-held_in-columns) where
  columns_held : let a = c.args in
      HeldBy a.layer (tile_side a.layer) (tile_column a.layer a.tile) a.layer.columns c.held_in-columns.result
  columns_held =
      let a = c.args in
      subst (λ (side : ℕ). HeldBy a.layer side (tile_column a.layer a.tile) a.layer.columns c.held_in-columns.result)
      c.tile_side-side.ensures (rw c.place_of-place.ensures.2 at c.held_in-columns.ensures)

  -- the first place of the part that is lent
  abbrev from : ℕ
  from = let l = c.args.layer in c.place_of-place.result.channel * (l.rows * l.columns)

  from_is : let a = c.args in from ≡ tile_channel a.layer a.tile * (a.layer.rows * a.layer.columns)
  from_is =
      let l = c.args.layer in
      ap (λ (k : ℕ). k * (l.rows * l.columns)) c.place_of-place.ensures.0

  -- the channel is within the output
  part : let a = c.args in from + a.layer.rows * a.layer.columns ≤ length a.output.now
  part =
      let l = c.args.layer in
      let t = c.args.tile in
      omega (arith, from_is, channel_end l t (tile_channel_lt l (planned_tiled l c.requires.planned.0) t c.requires.planned.2), c.requires.planned.1)

-- what `held_in` asks of the side and of the part
side_takes : (c : After-tile_side-side) (count part : ℕ) → let l = c.args.layer in let side = c.tile_side-side.result in
    part < ceiling_div (span l count) (tile_side l) → (grid_step l ≤ side) × (side ≤ 256) × (part < ceiling_div (span l count) side)
side_takes c count part below =
    let p = c.requires.planned.0 in
    rw c.tile_side-side.ensures ((planned_tiled _ p).wide, omega (arith, tile_side_high _ p.shape), below)

pub held_in-rows-requires : goal.held_in-rows-requires
held_in-rows-requires c =
    let p = c.requires.planned.0 in
    let below = tile_row_lt _ p c.args.tile in
    let (wide, narrow, inside) =
    side_takes c c.args.layer.rows c.place_of-place.result.row (omega (arith, c.place_of-place.ensures.1)) in
    (p, rows_wanted _ p, wide, narrow, inside)

pub held_in-columns-requires : goal.held_in-columns-requires
held_in-columns-requires c =
    let p = c.requires.planned.0 in
    let below = tile_column_lt _ p c.args.tile in
    let sized = (goal.at.held_in-columns-requires c).After-tile_side-side in
    let (wide, narrow, inside) =
    side_takes sized c.args.layer.columns c.place_of-place.result.column (omega (arith, c.place_of-place.ensures.2)) in
    (p, columns_wanted _ p, wide, narrow, inside)

pub overflow_mul-from : goal.overflow_mul-from
overflow_mul-from c = omega (arith, part (goal.at.overflow_mul-from c).After-held_in-columns)

pub overflow_mul-from-2 : goal.overflow_mul-from-2
overflow_mul-from-2 c = omega (arith, part (goal.at.overflow_mul-from-2 c).After-held_in-columns)

pub offset_bounds-output-from : goal.offset_bounds-output-from
offset_bounds-output-from c = omega (arith, part (goal.at.offset_bounds-output-from c).After-held_in-columns)

pub slice_bounds-store_rows-count : goal.slice_bounds-store_rows-count
slice_bounds-store_rows-count c = omega (arith, part (goal.at.slice_bounds-store_rows-count c).After-held_in-columns)

pub slice_bounds-store_rows-start : goal.slice_bounds-store_rows-start
slice_bounds-store_rows-start c = omega (arith, part (goal.at.slice_bounds-store_rows-start c).After-held_in-columns)

pub store_rows-requires : goal.store_rows-requires
store_rows-requires c =
    let l = c.args.layer in
    let p = c.requires.planned.0 in
    let t = c.args.tile in
    let at = (goal.at.store_rows-requires c).After-held_in-columns in
    let held = rows_held (goal.at.store_rows-requires c).After-held_in-rows in
    let across = columns_held at in
    let out = c.args.output.now in
    let size = length-take-le (length out - from at) (drop (from at) out) (omega (arith, length-drop (from at) out)) in
    record {
      planned = (p, with_words l p (tile_row l t) l.rows _ held, with_words l p (tile_column l t) l.columns _ across);
      columns_in_bounds = (omega (arith, size, part at, mul-le-mul_right l.columns held.short), across.short);
      field_in_bounds = (
        c.requires.field_in_bounds,
        rows_fit l p t _ _ held across (from at) (from_is at) c.args.words.now (part at) c.requires.by_index,
      );
    }

pub returns : goal.returns
returns c =
    let rows = (goal.at.returns c).After-held_in-rows in
    let at = (goal.at.returns c).After-held_in-columns in
    tile_stored c.args.layer c.requires.planned.0 c.args.tile _ _ (rows_held rows) (columns_held at) (from at) (from_is at)
    c.args.words.now (omega (arith, part at)) c.store_rows.ensures
