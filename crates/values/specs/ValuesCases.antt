-- 02, E9: values in parts, worked out by hand: whole tiles and strips, those at the borders, and runs of them over a channel's end. They are proved by
-- computation, on the definitions, place by place.
use Rattle.std.specs.Prelude.{Bool, ◌&&◌, ℕ, T, eqb}
use Rattle.algebra.specs.Sum.{sum}
use Rattle.base.specs.Number.{ceiling_div}
use Rattle.layer.specs.declared.shape.Layer.{Layer}
use Rattle.layer.specs.Shape.{tile_of}
use Rattle.layer.specs.Strip.{strip_of}
use Rattle.checks.specs.Engine.{Engine, tile_engine, strip_engine}
use Rattle.values.specs.Values.{values_in}

-- CONV in F_4 from one channel to two, K 11, no padding, not cropped, nothing added
abbrev sharpener : (stride rows columns : ℕ) → Layer
sharpener stride rows columns = record {
  kind = 0;
  field = 4;
  inputs = 1;
  outputs = 2;
  height = 512;
  width = 512;
  side = 11;
  stride = stride;
  padding = 0;
  peak = 1;
  top = 0;
  left = 0;
  rows = rows;
  columns = columns;
  below = 0;
  beside = 0;
}

abbrev holds : Engine → Layer → (from to values : ℕ) → Bool
holds engine l from to values = eqb (values_in engine l from to) values

-- a tile holds 22 by 22 places of the grid. 23 by 24 outputs: four tiles in a channel, of 22 by 22, 22 by 2, 1 by 22 and 1 by 2 values. With S 3 it holds 8
-- by 8 outputs, and 12 by 10 are in tiles of 8 by 8, 8 by 2, 4 by 8 and 4 by 2
by_tiles : T (holds tile_engine (sharpener 1 23 24) 0 1 484 && holds tile_engine (sharpener 1 23 24) 1 4 68
    && holds tile_engine (sharpener 1 23 24) 3 5 486 && holds tile_engine (sharpener 1 23 24) 0 8 1104 && holds tile_engine (sharpener 1 23 24) 8 8 0
    && holds tile_engine (sharpener 3 12 10) 0 1 64 && holds tile_engine (sharpener 3 12 10) 1 4 56)
unfolding values_in sum tile_of ceiling_div
by_tiles = tt

-- a strip holds 246 places of one output row. 2 by 250 outputs: strips of 246 and 4 values. With S 4 it holds 62 outputs: of 63 the last has a strip alone
by_strips : T (holds strip_engine (sharpener 1 2 250) 0 1 246 && holds strip_engine (sharpener 1 2 250) 1 3 250
    && holds strip_engine (sharpener 1 2 250) 3 5 250 && holds strip_engine (sharpener 4 2 63) 0 1 62 && holds strip_engine (sharpener 4 2 63) 1 2 1)
unfolding values_in sum strip_of ceiling_div
by_strips = tt
