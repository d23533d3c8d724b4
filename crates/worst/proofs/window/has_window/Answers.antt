-- `has_window`: some window is whole where some row and some column have theirs inside the map. It rests on the laws of whole windows.
use mathlib.Core.Path.{sym}
use Rattle.layer.specs.KindLaws.{conv_test, tconv_test}
use Rattle.worst.specs.WindowLaws.{has_whole_lem}
use Rattle.worst.specs.AcceptedLaws.{rows_in_range, columns_in_range}
use Rattle.worst.proofs.window.has_window.Goals as goal

pub first_inside-row-requires : goal.first_inside-row-requires
first_inside-row-requires c = rows_in_range _ c.requires

pub first_inside-column-requires : goal.first_inside-column-requires
first_inside-column-requires c = columns_in_range _ c.requires

pub returns-in-Conv : goal.returns-in-Conv
returns-in-Conv c =
    let l = c.args.layer in
    rw (conv_test l c.in-Conv.ensures, c.first_inside-row.ensures, c.first_inside-column.ensures) (sym (has_whole_lem l))

pub returns-in-Tconv : goal.returns-in-Tconv
returns-in-Tconv c = rw (tconv_test c.args.layer c.in-Tconv.ensures)
