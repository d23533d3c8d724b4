-- `put_rows`: after i rounds, the first i values stand in the buffer, in at most 12 bytes each.
use Prim.Native.Nat.{◌+◌, ◌*◌, ◌≤◌}
use Rattle.lines.specs.Lines.{rows_text}
use Rattle.lines.specs.Writing.{Appended}
use Rattle.lines.proofs.put_rows.Given as goal

abbrev pub invariant-loop-i : goal.invariant-loop-i
invariant-loop-i l =
    (l.place ≤ l.at + 12 * l.i) × Appended l.at (rows_text l.width l.i l.values) l.initial.lines l.lines l.place
