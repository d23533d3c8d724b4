-- `has_values` makes the tests of `spread`.
use mathlib.Core.Path.{sym}
use native.Mathlib.Omega.{arith}
use borrow.Author.Tests.{ne_eqb}
use Rattle.window.proofs.Figures.{spacing_low, spread_before, spread_between, spread_at}
use Rattle.window.proofs.shown.has_values.Goals as goal

pub returns-then-line-before : goal.returns-then-line-before
returns-then-line-before c = sym (spread_before _ _ _ _ (omega arith))

pub nonzero_rem-distance : goal.nonzero_rem-distance
nonzero_rem-distance c = omega (arith, spacing_low _ c.requires)

pub nonzero_div-result : goal.nonzero_div-result
nonzero_div-result c = omega (arith, spacing_low _ c.requires)

pub returns-then-distance-spacing-eq0 : goal.returns-then-distance-spacing-eq0
returns-then-distance-spacing-eq0 c =
    let e = c.edge_of-before.ensures in
    let f = c.spacing_of-spacing.ensures in
    rw (f, e) (sym (spread_at _ _ _ _ (omega arith) (rw (f, e) at c.if-distance-spacing-eq0.true)))

pub returns-else-distance-spacing-eq0 : goal.returns-else-distance-spacing-eq0
returns-else-distance-spacing-eq0 c =
    let e = c.edge_of-before.ensures in
    let f = c.spacing_of-spacing.ensures in
    let apart = rw (f, e) at c.if-distance-spacing-eq0.false in
    rw (f, e, ne_eqb _ _ apart) (sym (spread_between _ _ _ _ (omega arith) apart))
