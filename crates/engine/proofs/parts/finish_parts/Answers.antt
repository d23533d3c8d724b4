-- Each arm finishes the parts of the engine that the method is of.
use Rattle.engine.proofs.parts.finish_parts.Goals as goal

pub finish_tiles-requires : goal.finish_tiles-requires
finish_tiles-requires c =
    rw c.in-Tiles.is at c.requires

pub finish_strips-requires : goal.finish_strips-requires
finish_strips-requires c =
    rw c.in-Strips.is at c.requires

pub returns-in-Tiles : goal.returns-in-Tiles
returns-in-Tiles c =
    rw c.in-Tiles.is c.finish_tiles.ensures

pub returns-in-Strips : goal.returns-in-Strips
returns-in-Strips c =
    rw c.in-Strips.is c.finish_strips.ensures
