use mathlib.Core.Path.{◌≡◌}
use Prim.Native.Nat.{◌+◌, ◌*◌, ◌%◌, ◌≤◌}
use native.Mathlib.Nat.{mod-eq_of_lt, mul-le-mul}
use native.Mathlib.Omega.{arith}
use lib.IntN.{pos, nat_abs}
use lib.ListN.{length, get_or}
use Rattle.algebra.specs.PlacesLaws.{part_ends}
use Rattle.load.specs.Weights.{apart, group_sum}
use Rattle.load.proofs.Apart.{SummedTo, summed_none, summed_next, summed_all}
use Rattle.load.proofs.groups.rows_sum.Goals as goal
use Rattle.load.proofs.groups.rows_sum.Goals.{In-loop-a, After-row_sum-total, Start}

-- the remainder changes nothing
step_is : (c : Start) → c.args.group.step % 8 ≡ c.args.group.step
step_is c = mod-eq_of_lt (omega (arith, c.requires.0.step_most))

pub loop-a-init : goal.loop-a-init
loop-a-init c = (summed_none c.requires.0.row_below, omega arith, omega arith)

row_ends : (c : In-loop-a) → c.loop-a.a * c.args.side + c.args.side ≤ length c.args.plane.now
row_ends c = omega (arith, part_ends c.loop-a.a c.args.side c.args.side (omega arith), c.requires.2)

area_most : (c : Start) → c.args.side * c.args.side ≤ 121
area_most c = omega (arith, mul-le-mul c.requires.1 c.requires.1)

pub row_sum-total-requires : goal.row_sum-total-requires
row_sum-total-requires c = (c.requires.0, c.requires.1, row_ends c, omega (arith, area_most (goal.at.row_sum-total-requires c).Start))

-- the sum after a turn
next : (c : After-row_sum-total) → let a = c.args in
    SummedTo a.group.step a.group.row a.side (λ k. apart a.group.step a.group.column a.side (λ b. nat_abs (get_or a.plane.now (k * a.side + b) (pos 0))))
    (c.loop-a.a + a.group.step) (c.loop-a.total + c.row_sum-total.result)
    × (c.loop-a.total + c.row_sum-total.result ≤ 32768 * 11 * (c.loop-a.a + a.group.step))
    × (c.loop-a.total + c.row_sum-total.result ≤ 32768 * 11 * a.side)
next c =
    let g = c.requires.0 in
    (summed_next (omega arith) c.loop-a.invariant.0 c.row_sum-total.ensures.value, omega (arith, g.row_below), omega arith)

pub loop-a-preserved : goal.loop-a-preserved
loop-a-preserved c = rw (step_is (goal.at.loop-a-preserved c).Start) (next (goal.at.loop-a-preserved c).After-row_sum-total)

-- no row of the group is left: where it begins at the side, and where the next one is not below the side
pub returns : goal.returns
unfolding group_sum
returns c = (summed_all (omega arith) c.loop-a.invariant.0, omega arith)

pub returns-2 : goal.returns-2
unfolding group_sum
returns-2 c =
    let (sums, _, most) = next (goal.at.returns-2 c).After-row_sum-total in
    (summed_all (omega arith) sums, omega (arith, most))
