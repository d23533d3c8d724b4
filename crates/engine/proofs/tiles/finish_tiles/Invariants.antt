-- Tile after tile is written; at the end all tiles from `from` up to `to` are. Each leaves the kernel's transform that it used last.
use Prim.Native.Nat.{◌-◌, ◌<◌}
use Rattle.algebra.specs.Places.{Changed}
use Rattle.layer.specs.Shape.{scratch_words, tile_channel}
use Rattle.checks.specs.Engine.{tile_engine}
use Rattle.tile.specs.Channel.{KernelKept}
use Rattle.engine.proofs.PartsWritten.{PartsWritten}
use Rattle.engine.proofs.tiles.finish_tiles.Given as goal

abbrev pub invariant-loop-tile : goal.invariant-loop-tile
invariant-loop-tile l = record {
  written : PartsWritten tile_engine l.layer l.map l.kernel l.from l.tile l.initial.output l.output;
  changed : Changed 0 0 (scratch_words l.layer) l.initial.scratch l.scratch;
  kept : l.from < l.tile → KernelKept l.layer l.kernel (tile_channel l.layer (l.tile - 1)) (l.layer.inputs - 1) l.scratch;
}
