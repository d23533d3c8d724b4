-- The tests are those of the contract; the two places have the channels of the two tiles.
use mathlib.Core.Path.{sym, ◌∙◌, subst}
use native.Mathlib.Omega.{arith}
use lib.Dec.{T}
use borrow.Author.Tests.{eqb-true}
use Rattle.engine.proofs.tiles.keeps_kernel.Goals as goal

pub returns-then-layer-ne1 : goal.returns-then-layer-ne1
returns-then-layer-ne1 c = λ e. absurd (subst T (sym e) tt)

pub returns-then-tile-from : goal.returns-then-tile-from
returns-then-tile-from c = λ e. absurd (subst T (sym e) tt)

pub returns : goal.returns
returns c =
    let here = c.place_of-place.ensures in
    let before = c.place_of-before.ensures in
    λ e. (omega arith, omega arith, sym here.0 ∙ eqb-true _ _ e ∙ before.0)
