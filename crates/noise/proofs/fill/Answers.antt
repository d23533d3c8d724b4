-- A turn draws the seed after one draw more; the map is the table of what was written.
use Rattle.std.proofs.Common.{pos, length, arith}
use Rattle.algebra.specs.PlacesLaws.{table_of}
use Rattle.noise.proofs.fill.Goals as goal

pub returns-clause-map_after : goal.returns-clause-map_after
returns-clause-map_after c =
    table_of (pos 0) (length c.args.map.now) _ c.loop-value.map c.loop-value.auto.map (λ k l. c.loop-value.invariant.1 k (omega arith))
