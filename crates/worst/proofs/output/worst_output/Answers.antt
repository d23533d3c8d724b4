-- `worst_output`: the first whole window stands in the first row and the first column with a window inside the map.
use mathlib.Core.Path.{◌≡◌, sym, ◌∙◌}
use Prim.Native.Nat.{◌+◌, ◌<◌}
use native.Mathlib.Omega.{arith}
use Rattle.worst.specs.WindowLaws.{whole_row_lem, whole_column_lem}
use Rattle.worst.specs.Window.{whole_row, whole_column}
use Rattle.worst.specs.AcceptedLaws.{rows_in_range, columns_in_range, worst_made_for}
use Rattle.worst.proofs.output.worst_output.Goals as goal
use Rattle.worst.proofs.output.worst_output.Goals.{After-first_inside, After-first_inside-2}

pub worst_channel-channel-requires : goal.worst_channel-channel-requires
worst_channel-channel-requires c = (c.requires.weights, c.requires.conv_kind)

pub first_inside-requires : goal.first_inside-requires
first_inside-requires c = rows_in_range _ c.requires.plan

-- the row that was found is that of the first whole window, which is one of the crop
module _ (c : After-first_inside) where
  row_is : c.first_inside.result ≡ whole_row c.args.layer
  row_is = c.first_inside.ensures ∙ sym (whole_row_lem _ c.requires.whole)

  row_high : c.args.layer.top + c.first_inside.result < 2058
  row_high = omega (arith, row_is, (worst_made_for _ _ c.requires).row_in, c.requires.plan.full_height_high)

pub overflow_add-row : goal.overflow_add-row
overflow_add-row c = omega (arith, row_high (goal.at.overflow_add-row c).After-first_inside)

pub first_inside-requires-2 : goal.first_inside-requires-2
first_inside-requires-2 c = columns_in_range _ c.requires.plan

-- and so is the column
module _ (c : After-first_inside-2) where
  column_is : c.first_inside-2.result ≡ whole_column c.args.layer
  column_is = c.first_inside-2.ensures ∙ sym (whole_column_lem _ c.requires.whole)

  column_high : c.args.layer.left + c.first_inside-2.result < 2058
  column_high = omega (arith, column_is, (worst_made_for _ _ c.requires).column_in, c.requires.plan.full_width_high)

pub overflow_add-column : goal.overflow_add-column
overflow_add-column c = omega (arith, column_high (goal.at.overflow_add-column c).After-first_inside-2)

pub returns : goal.returns
returns c =
    rw (c.worst_channel-channel.ensures, row_is (goal.at.returns c).After-first_inside, column_is (goal.at.returns c).After-first_inside-2)
