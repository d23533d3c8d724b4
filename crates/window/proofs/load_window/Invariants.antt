-- Row after row is loaded: what a row shows is the same for all, but for the map row.
use Prim.Native.Nat.{◌*◌}
use Rattle.algebra.specs.Places.{Run}
use Rattle.fermat.specs.Field.{modulus, transform_length}
use Rattle.window.specs.Loaded.{Loaded}
use Rattle.window.proofs.WindowRows.{window_of}
use Rattle.window.proofs.load_window.Given as goal

abbrev pub invariant-loop-u : goal.invariant-loop-u
invariant-loop-u l =
    Loaded (modulus l.layer.field) (Run 0 (l.u * transform_length l.layer.field)) (window_of l.layer l.map l.channel l.row l.column)
    l.initial.words l.words
