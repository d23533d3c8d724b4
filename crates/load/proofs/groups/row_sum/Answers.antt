use mathlib.Core.Path.{◌≡◌, ap, ◌∙◌}
use Prim.Native.Nat.{◌+◌, ◌*◌, ◌%◌, ◌≤◌}
use native.Mathlib.Nat.{mod-eq_of_lt}
use native.Mathlib.Omega.{arith}
use borrow.Author.Rules.{sfits_of}
use lib.IntN.{ℤ, pos, nat_abs}
use lib.ListN.{get_or}
use mir.Facts.{to_z-of_z}
use mir.Syntax.{w16}
use mir.Val.{to_z, of_z}
use Rattle.load.proofs.Apart.{SummedTo, summed_none, summed_next, summed_all}
use Rattle.load.proofs.groups.row_sum.Goals as goal
use Rattle.load.proofs.groups.row_sum.Goals.{After-from-total, Start}

-- the remainder changes nothing
step_is : (c : Start) → c.args.group.step % 8 ≡ c.args.group.step
step_is c = mod-eq_of_lt (omega (arith, c.requires.0.step_most))

pub loop-b-init : goal.loop-b-init
loop-b-init c = (summed_none c.requires.0.column_below, omega arith, omega arith)

-- the sum after a turn
next : (c : After-from-total) → let a = c.args in
    SummedTo a.group.step a.group.column a.side (λ k. nat_abs (get_or a.plane.now (a.from + k) (pos 0))) (c.loop-b.b + a.group.step) (c.loop-b.total + c.from-total.result)
    × (c.loop-b.total + c.from-total.result ≤ 32768 * (c.loop-b.b + a.group.step))
    × (c.loop-b.total + c.from-total.result ≤ 32768 * a.side)
next c =
    let value : ℤ = get_or c.args.plane.now (c.args.from + c.loop-b.b) (pos 0) in
    let bits : to_z w16 (of_z w16 value) ≡ value = to_z-of_z {w = w16} (search sfits_of) in
    let size = c.from-total.ensures ∙ c.unsigned_abs.ensures.value ∙ ap nat_abs bits in
    (summed_next (omega arith) c.loop-b.invariant.0 size, omega (arith, c.requires.0.column_below), omega arith)

pub loop-b-preserved : goal.loop-b-preserved
loop-b-preserved c = rw (step_is (goal.at.loop-b-preserved c).Start) (next (goal.at.loop-b-preserved c).After-from-total)

-- no column of the group is left: where it begins at the side, and where the next one is not below the side
pub returns : goal.returns
returns c = record { value = summed_all (omega arith) c.loop-b.invariant.0; upper_bound = c.loop-b.invariant.2 }

pub returns-2 : goal.returns-2
returns-2 c =
    let (sums, _, most) = next (goal.at.returns-2 c).After-from-total in
    record { value = summed_all (omega arith) sums; upper_bound = most }
