-- The words are brought down, inverted and finished. Recovery has what the last step asks and the law that joins them.
use Rattle.std.proofs.Common.{◌∙◌, arith}
use Rattle.spectrum.proofs.Sizes.{tile_passes, tile_square}
use Rattle.spectrum.proofs.Recovery.{inverse_reducible, recovered}
use Rattle.spectrum.proofs.recover_tile.Goals as goal

pub transform_tile-requires-clause-square : goal.transform_tile-requires-clause-square
transform_tile-requires-clause-square c =
    rw (c.transform_length.ensures, c.settled.ensures.0, c.settled.ensures.1)
    (tile_square c.args.field c.requires.1 (c.settle_in.auto.words ∙ c.requires.2) (omega arith))

pub offset_residues-requires : goal.offset_residues-requires
offset_residues-requires c =
    let most = rw (c.transform_length.ensures, c.settled.ensures.1) at c.transform_tile.ensures.at_most_2 in
    rw (c.bits_of.ensures, c.halvings_of.ensures)
    (c.offset_of.ensures, inverse_reducible c.args.field c.transform_tile.new.words c.requires.0 c.requires.1 most)

pub returns : goal.returns
returns c =
    let field = c.args.field in
    let inverse = rw (c.transform_length.ensures, c.settled.ensures.0, tile_passes field c.requires.1) at c.transform_tile.ensures.tile_transformed in
    let residues = rw (c.bits_of.ensures, c.halvings_of.ensures) at c.offset_residues.ensures in
    recovered field c.args.words.now c.settle_in.new.words c.transform_tile.new.words c.offset_residues.new.words c.requires.0 c.requires.1 c.requires.2
    (c.transform_tile.auto.words ∙ c.settle_in.auto.words) c.settle_in.ensures inverse residues
