-- `corner_spectrum` meets what `forward_corner` asks with the numbers of its field.
use Rattle.std.proofs.Common.{refl, arith}
use Rattle.spectrum.proofs.Sizes.{tile_passes, tile_square}
use Rattle.spectrum.proofs.corner_spectrum.Goals as goal

pub forward_corner-requires-clause-square : goal.forward_corner-requires-clause-square
forward_corner-requires-clause-square c =
    rw (c.transform_length.ensures, c.of_field.ensures.0, c.of_field.ensures.1) (tile_square c.args.field c.requires.0 refl (omega arith))

pub returns-clause-spectrum : goal.returns-clause-spectrum
returns-clause-spectrum c =
    rw (c.transform_length.ensures, c.of_field.ensures.0, tile_passes c.args.field c.requires.0) at c.forward_corner.ensures.tile_forward
