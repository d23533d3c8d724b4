-- `put_numbered` puts the word, a space, the number in at most 20 digits, and a newline.
use Prim.Native.Nat.{◌+◌, ◌≤◌}
use native.Mathlib.Omega.{arith}
use lib.ListN.{length}
use Rattle.lines.specs.Lines.{decimal}
use Rattle.lines.specs.WritingLaws.{append_two}
use Rattle.lines.specs.DecimalLaws.{decimal_few}
use Rattle.lines.proofs.put_numbered.Goals as goal
use Rattle.lines.proofs.put_numbered.Goals.{After-put_bytes-number}

-- the space is put: the number and one byte more have their places
module _ (c : After-put_bytes-number) where
  room : c.put_bytes-number.result + length (decimal c.args.n) + 1 ≤ length c.put_bytes-number.new.lines
  room =
      let p = c.put_bytes-space.ensures in
      let q = c.put_bytes-number.ensures in
      let few = decimal_few c.args.n 20 (omega arith) (omega (arith, c.ranges.n)) in
      omega (arith, c.requires, p.same_length, p.ends, q.same_length, q.ends, few)

pub put_number-end-requires : goal.put_number-end-requires
put_number-end-requires c = omega (arith, room (goal.at.put_number-end-requires c).After-put_bytes-number)

pub put_bytes-requires : goal.put_bytes-requires
put_bytes-requires c =
    let p = c.put_number-end.ensures in
    omega (arith, room (goal.at.put_bytes-requires c).After-put_bytes-number, p.same_length, p.ends)

pub returns : goal.returns
returns c =
    append_two c.put_bytes-space.ensures
    (append_two c.put_bytes-number.ensures (append_two c.put_number-end.ensures c.put_bytes.ensures))
