-- `search` goes through the map in stored order. The laws of such a way say what it has passed and what it has found.
use Rattle.load.proofs.Searches.{Searched}
use Rattle.load.proofs.offender.search.Given as goal

abbrev pub invariant-loop-column : goal.invariant-loop-column
invariant-loop-column l = Searched l.layer l.map l.found l.channel l.row l.column l.i

abbrev pub invariant-loop-row : goal.invariant-loop-row
invariant-loop-row l = Searched l.layer l.map l.found l.channel l.row 0 l.i

abbrev pub invariant-channels : goal.invariant-channels
invariant-channels l = Searched l.layer l.map l.found l.channel 0 0 l.i
