-- `load_row` clears what the values leave free. It rests on the two forms of a row.
use Prim.Native.Nat.{◌+◌}
use native.Mathlib.Omega.{arith}
use Rattle.window.proofs.Loads.{apart_lent}
use Rattle.window.proofs.Rows.{close_row, apart-row, lent_length, lent_value}
use Rattle.window.proofs.load_row.Goals as goal

pub returns-then-shown-eq1 : goal.returns-then-shown-eq1
returns-then-shown-eq1 c =
    let s = c.args.shown in
    let line = c.args.line.now in
    let (inside, high, in_line) = c.requires.inside in
    let f = c.min-first.ensures in
    close_row _ _ inside line s.first c.if-shown-eq1.true c.clear.ensures
    (rw c.if-shown-eq1.true (apart_lent 1 s.begin (0 + s.begin) s.count _ (omega arith) (omega arith) (lent_length line s.first s.count _ f in_line)
    (omega (arith, c.clear.ensures.same_length, inside.begins)) (lent_value line s.first s.count _ f in_line) c.load_spaced.ensures))
    c.clear-then-shown-eq1.ensures

pub returns-else-shown-eq1 : goal.returns-else-shown-eq1
returns-else-shown-eq1 c =
    let s = c.args.shown in
    let line = c.args.line.now in
    let (inside, high, in_line) = c.requires.inside in
    let f = c.min-first.ensures in
    apart-row _ _ inside line s.first c.clear-else-shown-eq1.ensures
    (apart_lent s.spacing s.begin (0 + s.begin) s.count _ inside.apart (omega arith) (lent_length line s.first s.count _ f in_line)
    (omega (arith, c.clear-else-shown-eq1.ensures.same_length, inside.begins)) (lent_value line s.first s.count _ f in_line) c.load_apart.ensures)
