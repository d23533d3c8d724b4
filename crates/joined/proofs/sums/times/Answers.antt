-- Both weights are widened as they are, and their product is at most 2^30 in size.
use mathlib.Core.Path.{◌≡◌, refl}
use Prim.Native.Nat.{◌^◌, ◌≤◌}
use native.Mathlib.Nat.{mul-le-mul}
use native.Mathlib.Omega.{arith}
use lib.IntN.{ℤ, nat_abs, ◌*ℤ◌}
use lib.Signed.{nat_abs-le}
use mir.Facts.{to_z-of_z}
use mir.Syntax.{w16, w64}
use mir.Val.{SFits, to_z, of_z}
use Rattle.algebra.specs.SizeLaws.{size_mul}
use Rattle.joined.proofs.Totals.{fits-small}
use Rattle.joined.proofs.sums.times.Goals as goal
use Rattle.joined.proofs.sums.times.Goals.{Start}

weight_small : {z : ℤ} → SFits w16 z → nat_abs z ≤ 32768
weight_small {z} fits = nat_abs-le z {H = 32768} fits.sfits

widened : {z : ℤ} → SFits w16 z → to_z w64 (of_z w64 (to_z w16 (of_z w16 z))) ≡ z
widened {z} fits = rw (to_z-of_z fits) (to_z-of_z (fits-small z (omega (arith, weight_small fits))))

product_small : (c : Start) → nat_abs (c.args.x *ℤ c.args.y) ≤ 2 ^ 30
product_small c = rw (size_mul c.args.x c.args.y) (mul-le-mul (weight_small c.ranges.x) (weight_small c.ranges.y))

pub overflow_cast-result : goal.overflow_cast-result
overflow_cast-result c = rw (to_z-of_z c.ranges.x) (fits-small _ (omega (arith, weight_small c.ranges.x)))

pub overflow_cast-result-2 : goal.overflow_cast-result-2
overflow_cast-result-2 c = rw (to_z-of_z c.ranges.y) (fits-small _ (omega (arith, weight_small c.ranges.y)))

pub overflow_mul-result : goal.overflow_mul-result
overflow_mul-result c = rw (widened c.ranges.x, widened c.ranges.y) (fits-small _ (omega (arith, product_small c)))

pub returns : goal.returns
returns c =
    let small = product_small c in
    let word = to_z-of_z (fits-small (c.args.x *ℤ c.args.y) (omega (arith, small))) in
    rw (widened c.ranges.x, widened c.ranges.y, word) (refl, small)
