-- In TCONV it compares in place of the difference of the definition.
use Prim.Native.Nat.{suc, ◌+◌, ◌*◌, ◌-◌}
use native.Mathlib.Omega.{arith}
use Rattle.layer.specs.KindLaws.{tconv_test}
use Rattle.layer.specs.Shape.{tconv_size}
use Rattle.checks.proofs.Tests.{leb_same}
use Rattle.checks.proofs.planner.has_output.Goals as goal

pub returns-in-Tconv : goal.returns-in-Tconv
unfolding tconv_size
returns-in-Tconv c =
    let a = c.args in
    let l = a.layer in
    rw (tconv_test l c.in-Tconv.ensures)
    (leb_same (suc (2 * l.padding)) ((a.extent - 1) * l.stride + l.side + a.added) 1 (tconv_size a.extent l.side l.stride l.padding a.added)
    (λ h. omega arith)
    (λ h. omega arith))
