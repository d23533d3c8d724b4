-- `first_inside` tries the first row whose window does not begin before the map. It rests on the laws of the first window in one direction.
use mathlib.Core.Path.{◌≡◌, sym, ◌∙◌}
use Prim.Native.Nat.{◌+◌, ◌*◌, ◌-◌, ◌≤◌}
use native.Mathlib.Omega.{arith}
use Rattle.base.specs.Number.{ceiling_div}
use Rattle.worst.specs.WindowLaws.{window_begins, first_inside_found, first_inside_cut, first_inside_past}
use Rattle.worst.proofs.window.first_inside.Goals as goal
use Rattle.worst.proofs.window.first_inside.Goals.{After-first_begun-row, Else-count-row}

-- the call, and the first row whose window does not begin before the map
module _ (begun : After-first_begun-row) where
  -- which row that is
  abbrev is_begun : begun.first_begun-row.result ≡ ceiling_div begun.args.layer.padding begun.args.layer.stride - begun.args.start
  is_begun = begun.first_begun-row.ensures

pub returns-then-count-row : goal.returns-then-count-row
returns-then-count-row c =
    let a = c.args in
    let r = c.requires.shape in
    let is = is_begun (goal.at.returns-then-count-row c).After-first_begun-row in
    sym (first_inside_cut a.layer a.extent a.start a.count r.stride_low r.side_low (rw is at c.if-count-row.true))

-- the row is one of the crop
begins : (c : Else-count-row) → let a = c.args in (a.start + c.first_begun-row.result) * a.layer.stride ≤ 8232
begins c =
    window_begins _ c.requires.shape _ (omega (arith, c.requires.end_high, c.if-count-row.false))

pub overflow_mul-end : goal.overflow_mul-end
overflow_mul-end c = omega (arith, begins (goal.at.overflow_mul-end c).Else-count-row)

pub overflow_add-end-2 : goal.overflow_add-end-2
overflow_add-end-2 c = omega (arith, begins (goal.at.overflow_add-end-2 c).Else-count-row, c.requires.shape.side_high)

pub returns-then-end-extent : goal.returns-then-end-extent
returns-then-end-extent c =
    let a = c.args in
    let r = c.requires.shape in
    let is = is_begun (goal.at.returns-then-end-extent c).After-first_begun-row in
    is ∙ sym (first_inside_found a.layer a.extent a.start a.count r.stride_low r.side_low (rw is at c.if-count-row.false) (rw is at c.if-end-extent.true))

pub returns-else-end-extent : goal.returns-else-end-extent
returns-else-end-extent c =
    let a = c.args in
    let r = c.requires.shape in
    let is = is_begun (goal.at.returns-else-end-extent c).After-first_begun-row in
    sym (first_inside_past a.layer a.extent a.start a.count r.stride_low r.side_low (rw is at c.if-end-extent.false))
