-- `put_value` puts the sign, or nothing, and then the size, which has at most ten digits.
use mathlib.Core.Path.{◌≡◌}
use native.Mathlib.Omega.{arith}
use lib.IntN.{nat_abs}
use mir.Facts.{to_z-of_z}
use Rattle.lines.specs.Writing.{Appended}
use Rattle.lines.specs.WritingLaws.{append_none, append_two}
use Rattle.lines.proofs.SignedDecimals.{sign, sign_below, sign_above, sign_size, sign_long, size_few}
use Rattle.lines.proofs.put_value.Goals as goal
use Rattle.lines.proofs.put_value.Goals.{After-unsigned_abs, Joined-value-lt0, then-value-lt0, else-value-lt0}

-- the sign stands in the buffer
signed : (c : Joined-value-lt0) →
    let a = c.args in
    Appended a.at (sign a.value) a.lines.now c.if-value-lt0.lines c.if-value-lt0.first
signed c =
    let f = to_z-of_z c.ranges.value in
    elim c.if-value-lt0.branch [
      | then-value-lt0 w ↦ rw (w.lines-is, w.first-is, sign_below c.args.value (rw f at w.if-value-lt0.true)) w.put_bytes-first.ensures
      | else-value-lt0 w ↦ rw (w.lines-is, w.first-is, sign_above c.args.value (rw f at w.if-value-lt0.false)) (append_none _ _)
    ]

-- the size that is put
module _ (c : After-unsigned_abs) where
  sized : c.unsigned_abs.result ≡ nat_abs c.args.value
  sized = rw (to_z-of_z c.ranges.value) at c.unsigned_abs.ensures.value

pub put_number-requires : goal.put_number-requires
put_number-requires c =
    let p = signed (goal.at.put_number-requires c).Joined-value-lt0 in
    rw (sized c) (omega (arith, c.requires, p.same_length, p.ends, sign_long c.args.value, size_few c.args.value c.ranges.value))

-- the sign and the size stand in the buffer
pub returns : goal.returns
returns c =
    let at = goal.at.returns c in
    rw (sign_size c.args.value) (append_two (signed at.Joined-value-lt0) (rw (sized at.After-unsigned_abs) at c.put_number.ensures))
