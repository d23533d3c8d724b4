-- `load_fits`: the sum of all sizes decides where it is within the limit, and in CONV; else the greatest group does. It rests on the laws of the
-- load.
use mathlib.Core.Path.{sym, ap, ◌∙◌}
use Prim.Native.Nat.{ℕ, ◌*◌, ◌≤◌}
use native.Mathlib.Nat.{le_trans}
use native.Mathlib.Omega.{arith}
use borrow.Author.Tests.{le-leb, lt-leb}
use lib.Dec.{leb}
use Rattle.layer.specs.KindLaws.{conv_number, tconv_number}
use Rattle.load.specs.Load.{size_total}
use Rattle.load.proofs.LoadLaws.{load-conv, load-tconv, load_most}
use Rattle.load.proofs.load_fits.Goals as goal

pub returns-then-peak-total : goal.returns-then-peak-total
returns-then-peak-total c =
    let a = c.args in
    let within : a.layer.peak * size_total a.layer a.kernel.now a.m ≤ a.limit = omega (arith, rw c.requires.total_value.0 at c.if-peak-total.true) in
    sym (le-leb _ _ (le_trans (load_most a.layer a.kernel.now a.m) within))

pub returns-in-Conv : goal.returns-in-Conv
returns-in-Conv c =
    let a = c.args in
    sym (ap (λ (n : ℕ). leb n a.limit) (load-conv a.layer a.kernel.now a.m (conv_number a.layer c.in-Conv.ensures))
    ∙ lt-leb _ _ (rw c.requires.total_value.0 at c.if-peak-total.false))

pub returns-in-Tconv : goal.returns-in-Tconv
returns-in-Tconv c =
    let a = c.args in
    ap (λ (n : ℕ). leb n a.limit) (ap (λ (n : ℕ). a.layer.peak * n) c.greatest_group.ensures.0
    ∙ sym (load-tconv a.layer a.kernel.now a.m (tconv_number a.layer c.in-Tconv.ensures)))
