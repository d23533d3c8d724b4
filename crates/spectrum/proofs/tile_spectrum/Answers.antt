-- `tile_spectrum` meets what `transform_tile` asks with the numbers of its field.
use Rattle.std.proofs.Common.{arith}
use Rattle.spectrum.proofs.Sizes.{tile_passes, tile_square}
use Rattle.spectrum.proofs.tile_spectrum.Goals as goal

pub transform_tile-requires-clause-square : goal.transform_tile-requires-clause-square
transform_tile-requires-clause-square c =
    let given = c.requires.field_bound in
    rw (c.transform_length.ensures, c.of_field.ensures.0, c.of_field.ensures.1) (tile_square c.args.field given.0 given.1 (omega arith))

pub returns-clause-spectrum : goal.returns-clause-spectrum
returns-clause-spectrum c =
    rw (c.transform_length.ensures, c.of_field.ensures.0, tile_passes c.args.field c.requires.field_bound.0) at c.transform_tile.ensures.tile_transformed
