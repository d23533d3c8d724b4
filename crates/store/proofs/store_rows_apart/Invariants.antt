-- Row after row is stored; the words of each row are among the N by N.
use Rattle.store.specs.Held.{RowsStored}
use Rattle.store.proofs.store_rows_apart.Given as goal

abbrev pub invariant-loop-r : goal.invariant-loop-r
invariant-loop-r g l = RowsStored l.layer l.rows l.columns l.r l.words l.initial.output l.output
