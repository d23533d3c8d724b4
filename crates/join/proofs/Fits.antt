-- A weight that fits, as the answer tests it, is a number of 16 signed bits.
use mathlib.Core.Path.{◌≡◌}
use mathlib.Core.Bool.{true}
use native.Mathlib.Omega.{arith}
use borrow.Author.Tests.{leb-true}
use lib.Dec.{leb}
use lib.IntN.{ℤ, pos, negsuc}
use mir.Syntax.{w16}
use mir.Val.{SFits}
use Rattle.algebra.specs.EveryLaws.{both_true}
use Rattle.join.specs.Answer.{fits}

pub fit_sfits : (z : ℤ) → fits z ≡ true → SFits w16 z
fit_sfits (pos n) e = record { sfits = omega (arith, leb-true n 32767 e) }
fit_sfits (negsuc n) e = record { sfits = omega (arith, leb-true n 32767 (both_true (leb n 32767) true e).0) }
