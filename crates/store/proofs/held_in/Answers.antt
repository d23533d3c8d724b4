-- `held_in` finds the first and the end; all its numbers are small. That they are right is shown in HeldLines.
use mathlib.Core.Path.{◌≡◌}
use Prim.Native.Nat.{◌+◌, ◌*◌, ◌<◌, ◌≤◌, min}
use native.Mathlib.Nat.{mul-le-mul_left}
use native.Mathlib.Omega.{arith}
use Rattle.base.specs.NumberLaws.{ceiling_starts}
use Rattle.base.specs.Number.{ceiling_div}
use Rattle.layer.specs.Shape.{grid_step}
use Rattle.layer.specs.TileSizeLaws.{span_high}
use Rattle.layer.specs.PartLaws.{step_range}
use Rattle.store.proofs.HeldLines.{first_held, held_by}
use Rattle.store.proofs.held_in.Goals as goal
use Rattle.store.proofs.held_in.Goals.{After-end_held-end, After-first_held-first, Start}

-- bounds of the arguments of the two calls: the part starts within the span
bounds : (c : Start) → let a = c.args in
    (a.part * a.side < 8229) × (a.part < 8292) × (a.side ≤ 256) × (1 ≤ grid_step a.layer) × (grid_step a.layer ≤ 4)
bounds c =
    let (planned, wanted, wide, narrow, below) = c.requires in
    let (some, few) = step_range _ planned.shape in
    let start = ceiling_starts _ _ c.args.part (omega arith) below in
    let span = span_high _ _ wanted in
    let one : c.args.part * 1 ≤ c.args.part * c.args.side = mul-le-mul_left c.args.part (omega arith) in
    (omega arith, omega arith, narrow, some, few)

-- the first is found
module _ (c : After-first_held-first) where
  first_is : let a = c.args in c.first_held-first.result ≡ ceiling_div (a.part * a.side) (grid_step a.layer)
  first_is = rw c.grid_step-step.ensures at c.first_held-first.ensures

end_is : (c : After-end_held-end) → let a = c.args in
    c.end_held-end.result ≡ min (ceiling_div ((a.part + 1) * a.side) (grid_step a.layer)) a.count
end_is c = rw c.grid_step-step.ensures at c.end_held-end.ensures

-- the first lies in the part and before the end
inside : (c : After-end_held-end) → let a = c.args in let first = c.first_held-first.result in
    let step = c.grid_step-step.result in
    (first < c.end_held-end.result) × (a.part * a.side ≤ first * step) × (first * step < a.part * a.side + a.side)
inside c =
    let (planned, wanted, wide, narrow, below) = c.requires in
    rw (← c.grid_step-step.ensures) at
    (first_held _ planned _ _ _ _ _ wanted wide below (first_is c.before) (end_is c))

pub first_held-first-requires : goal.first_held-first-requires
first_held-first-requires c =
    let (begin, part, side, some, step) = bounds (goal.at.first_held-first-requires c).Start in
    rw c.grid_step-step.ensures (omega arith, side, some, step)

pub end_held-end-requires : goal.end_held-end-requires
end_held-end-requires c =
    let (begin, part, side, some, step) = bounds (goal.at.end_held-end-requires c).Start in
    rw c.grid_step-step.ensures (part, side, some, step)

pub overflow_sub-count_held : goal.overflow_sub-count_held
overflow_sub-count_held c = omega (arith, inside c)

pub overflow_mul-word : goal.overflow_mul-word
overflow_mul-word c = omega (arith, inside (goal.at.overflow_mul-word c).After-end_held-end, bounds (goal.at.overflow_mul-word c).Start)

pub overflow_mul-word-2 : goal.overflow_mul-word-2
overflow_mul-word-2 c = omega (arith, inside (goal.at.overflow_mul-word-2 c).After-end_held-end, bounds (goal.at.overflow_mul-word-2 c).Start)

pub overflow_sub-word-2 : goal.overflow_sub-word-2
overflow_sub-word-2 c = omega (arith, inside (goal.at.overflow_sub-word-2 c).After-end_held-end)

pub overflow_add-word : goal.overflow_add-word
overflow_add-word c =
    let at = goal.at.overflow_add-word c in
    omega (arith, inside at.After-end_held-end, bounds at.Start, c.requires.0.shape.side_high)

pub returns : goal.returns
returns c =
    let (planned, wanted, wide, narrow, below) = c.requires in
    let at = goal.at.returns c in
    held_by _ planned _ _ _ _ _ wanted wide below (first_is at.After-first_held-first) (end_is at.After-end_held-end)
    (rw c.grid_step-step.ensures)
