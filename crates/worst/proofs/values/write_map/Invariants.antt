-- `write_map` writes row after row: each is a run that begins where the rows before it end, so that in the end every place of the map is written.
use Prim.Native.Nat.{◌*◌}
use lib.IntN.{pos}
use Rattle.algebra.specs.Places.{Written, Run}
use Rattle.worst.specs.Worst.{value_at}
use Rattle.worst.proofs.values.write_map.Given as goal

abbrev pub invariant-loop-line : goal.invariant-loop-line
invariant-loop-line l =
    Written (pos 0) (Run 0 (l.line * l.layer.width)) (value_at l.layer l.kernel l.output) l.initial.map l.map
