-- Where the windows of a tile begin.
use Rattle.std.specs.Prelude.{ℕ, ◌+◌, ◌*◌}
use Rattle.layer.specs.declared.shape.Layer.{Layer}
use Rattle.layer.specs.Shape.{tile_side, grid_step, tile_row, tile_column}

-- the grid row and column that the window of tile t begins at: the crop's first output and the tiles before
abbrev pub first_row : Layer → ℕ → ℕ
first_row l t = l.top * grid_step l + tile_row l t * tile_side l

abbrev pub first_column : Layer → ℕ → ℕ
first_column l t = l.left * grid_step l + tile_column l t * tile_side l
