-- `put_entry` puts the value, in at most 11 bytes, and one byte after it.
use Prim.Native.Nat.{◌+◌, ◌≤◌}
use native.Mathlib.Omega.{arith}
use lib.ListN.{length}
use mir.Facts.{to_z-of_z}
use Rattle.lines.specs.Lines.{signed_decimal}
use Rattle.lines.specs.Writing.{Appended}
use Rattle.lines.specs.WritingLaws.{append_two}
use Rattle.lines.proofs.SignedDecimals.{signed_few}
use Rattle.lines.proofs.put_entry.Goals as goal
use Rattle.lines.proofs.put_entry.Goals.{After-put_value-end}

-- the value stands in the buffer, and one byte more has its place after it
module _ (c : After-put_value-end) where
  valued : let a = c.args in Appended a.at (signed_decimal a.value) a.lines.now c.put_value-end.new.lines c.put_value-end.result
  valued = rw (to_z-of_z c.ranges.value) at c.put_value-end.ensures

  room : c.put_value-end.result + 1 ≤ length c.put_value-end.new.lines
  room = omega (arith, c.requires, valued.same_length, valued.ends, signed_few c.args.value c.ranges.value)

pub put_bytes-requires : goal.put_bytes-requires
put_bytes-requires c = room (goal.at.put_bytes-requires c).After-put_value-end

pub put_bytes-requires-else-last : goal.put_bytes-requires-else-last
put_bytes-requires-else-last c = room (goal.at.put_bytes-requires-else-last c).After-put_value-end

pub returns-then-last : goal.returns-then-last
returns-then-last c =
    rw c.if-last.true (append_two (valued (goal.at.returns-then-last c).After-put_value-end) c.put_bytes.ensures)

pub returns-else-last : goal.returns-else-last
returns-else-last c =
    rw c.if-last.false (append_two (valued (goal.at.returns-else-last c).After-put_value-end) c.put_bytes-else-last.ensures)
