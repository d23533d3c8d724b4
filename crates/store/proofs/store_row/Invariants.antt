-- Place after place is stored.
use Rattle.store.specs.Held.{RowStored}
use Rattle.store.proofs.store_row.Given as goal

abbrev pub invariant-loop-i : goal.invariant-loop-i
invariant-loop-i l = RowStored l.offset 0 0 l.step l.i l.words l.initial.output l.output
