-- The digits before the last stand in the buffer, after the call or because there are none; then the last digit is stored.
use mathlib.Core.Path.{◌≡◌}
use Prim.Native.Nat.{ℕ, ◌+◌, ◌<◌}
use native.Mathlib.Omega.{arith}
use lib.ListN.{length, length-append}
use Rattle.lines.specs.Lines.{decimal}
use Rattle.lines.specs.Writing.{Appended}
use Rattle.lines.specs.WritingLaws.{append_none, append_byte, append_two}
use Rattle.lines.specs.DecimalLaws.{leading, leading_none, leading_tenth, decimal_last}
use Rattle.lines.proofs.+put_number.Goals as goal
use Rattle.lines.proofs.+put_number.Goals.{Joined-n-ge10, then-n-ge10, else-n-ge10}

-- a number's digits are one more than those before the last
long : (n : ℕ) → length (decimal n) ≡ length (leading n) + 1
long n = rw (decimal_last n) (length-append (leading n) _)

pub put_number-last-requires : goal.put_number-last-requires
put_number-last-requires t c =
    let n = c.args.n in
    let more = c.if-n-ge10.true in
    (omega arith, rw (← leading_tenth n more) (omega (arith, c.requires, long n)))

-- the digits before the last stand in the buffer, and one byte more has its place after them
module _ (t : ℕ) (c : Joined-n-ge10 t) where
  before_last : let a = c.args in Appended a.at (leading a.n) a.lines.now c.if-n-ge10.lines c.if-n-ge10.last
  before_last =
      let n = c.args.n in
      elim c.if-n-ge10.branch [
        | then-n-ge10 w ↦ rw (w.lines-is, w.last-is, leading_tenth n w.if-n-ge10.true) w.put_number-last.ensures
        | else-n-ge10 w ↦ rw (w.lines-is, w.last-is, leading_none n w.if-n-ge10.false) (append_none _ _)
      ]

  room : c.if-n-ge10.last < length c.if-n-ge10.lines
  room = omega (arith, before_last.same_length, before_last.ends, c.requires, long c.args.n)

pub bounds-lines-last : goal.bounds-lines-last
bounds-lines-last t c = room t (goal.at.bounds-lines-last t c).Joined-n-ge10

pub returns : goal.returns
returns t c =
    let j = (goal.at.returns t c).Joined-n-ge10 in
    rw (decimal_last c.args.n) (append_two (before_last t j) (append_byte _ _ _ (room t j)))
