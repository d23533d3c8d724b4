-- How far a part of either engine reaches on the stride-1 grid, and what lies in the parts before one of them: output rows or columns, and values by
-- these.
use Rattle.std.specs.Prelude.{ℕ, suc, ◌+◌, ◌*◌, ◌-◌, ◌/◌, ltb}
use Rattle.algebra.specs.Counted.{counted}
use Rattle.base.specs.Number.{ceiling_div}
use Rattle.layer.specs.declared.shape.Layer.{Layer}
use Rattle.layer.specs.Shape.{tile_side, grid_step, span}
use Rattle.layer.specs.Strip.{strip_length}
use Rattle.checks.specs.declared.method.Method.{Method}
use Rattle.checks.specs.declared.method.Method.TheVariants.{Tiles, Strips}

-- a tile is L by L places; a strip is one output row, which is one grid step, by L places
abbrev pub part_height : Method → Layer → ℕ
part_height Tiles l = tile_side l
part_height Strips l = grid_step l

abbrev pub part_width : Method → Layer → ℕ
part_width Tiles l = tile_side l
part_width Strips l = strip_length l

-- the parts down and across a plane of the output
abbrev pub parts_down : Method → Layer → ℕ
parts_down method l = ceiling_div (span l l.rows) (part_height method l)

abbrev pub parts_across : Method → Layer → ℕ
parts_across method l = ceiling_div (span l l.columns) (part_width method l)

-- of `count` rows or columns, those in the parts before `part` along them, each part of that length
abbrev pub held_before : Layer → (count length part : ℕ) → ℕ
held_before l count length part = counted count (λ e. ltb (e * grid_step l / length) part)

-- of a plane's rows and columns
abbrev pub rows_before : Method → Layer → (row : ℕ) → ℕ
rows_before method l row = held_before l l.rows (part_height method l) row

abbrev pub columns_before : Method → Layer → (column : ℕ) → ℕ
columns_before method l column = held_before l l.columns (part_width method l) column

-- the values in the parts before the one at that plane, row and column of parts: the planes before, in the plane the rows before, in the row of parts the
-- columns before
abbrev pub values_up_to : Method → Layer → (plane row column : ℕ) → ℕ
values_up_to method l plane row column =
    (plane * l.rows + rows_before method l row) * l.columns
    + (rows_before method l (suc row) - rows_before method l row) * columns_before method l column
