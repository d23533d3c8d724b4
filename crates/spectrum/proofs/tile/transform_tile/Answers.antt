-- The transforms of the columns, then of the rows. Tiles has the law that joins them, in either direction.
use Rattle.std.proofs.Common.{◌∙◌}
use Rattle.passes.specs.Passes.{passes}
use Rattle.spectrum.proofs.Tiles.{tile_transformed}
use Rattle.spectrum.proofs.tile.transform_tile.Goals as goal

pub returns-clause-tile_transformed : goal.returns-clause-tile_transformed
returns-clause-tile_transformed g c =
    let a = c.args in
    let square = c.requires.square in
    tile_transformed g.T.Transform.direction a.residues.bits (passes a.n) a.n a.words.now c.transform_lanes.new.words c.transpose.new.words
    c.transform_lanes-2.new.words square.side (c.transform_lanes.auto.words ∙ square.whole) c.transpose.ensures c.transform_lanes.ensures.transformed
    (rw c.transformed.ensures.0 at c.transform_lanes-2.ensures.transformed)
