-- What a planned layer says of its sizes: rule 8 by kind, bounds of the full output, and the two tests of a crop.
use Rattle.std.specs.Prelude.{◌≡◌, Bool, true, false, cond, ℕ, ◌+◌, ◌*◌, ◌-◌, ◌≤◌, ◌<◌, leb, ltb, eqb}
use Rattle.std.proofs.Math.Nat.{div-le_self}
use Rattle.std.proofs.Common.{mul-le-mul}
use native.Mathlib.Omega.{arith}
use borrow.Author.Tests.{leb-true, ltb-true, eq-eqb, ne_eqb}
use Rattle.algebra.specs.EveryLaws.{both_true}
use Rattle.layer.specs.declared.shape.Layer.{Layer}
use Rattle.layer.specs.declared.shape.Kind.TheVariants.{Tconv}
use Rattle.layer.specs.Shape.{is_conv, kind_of, conv_size, tconv_size, full_size}
use Rattle.layer.specs.KindLaws.{tconv_test}
use Rattle.layer.specs.Planned.{added_fits, crop_fits, InRange, ExtentInRange, Outputs}

pub height_extent : (l : Layer) → InRange l → ExtentInRange l l.height l.below
height_extent l r = record { shape = r; low = r.height_low; high = r.height_high; added_high = r.below_high }

pub width_extent : (l : Layer) → InRange l → ExtentInRange l l.width l.beside
width_extent l r = record { shape = r; low = r.width_low; high = r.width_high; added_high = r.beside_high }

-- rule 23
pub added_high : (l : Layer) (added : ℕ) → added_fits l added ≡ true → added < l.stride
added_high l added e = ltb-true added l.stride (both_true (cond (is_conv l) (eqb added 0) true) (ltb added l.stride) e).1

-- a choice of two numbers that are at most n
pub cond_le : (t : Bool) {a b n : ℕ} → a ≤ n → b ≤ n → cond t a b ≤ n
cond_le true p q = p
cond_le false p q = q

module _ (l : Layer) (extent added : ℕ) where
  -- rule 8 by kind
  pub conv_room : Outputs l extent added → l.kind ≡ 0 → l.side ≤ extent + 2 * l.padding
  conv_room o e = leb-true l.side (extent + 2 * l.padding) (rw (eq-eqb l.kind 0 e) at o.some)

  pub tconv_room : Outputs l extent added → (l.kind ≡ 0 → ⊥) → 2 * l.padding < (extent - 1) * l.stride + l.side + added
  unfolding tconv_size
  tconv_room o e =
      let h = leb-true 1 (tconv_size extent l.side l.stride l.padding added) (rw (ne_eqb l.kind 0 e) at o.some) in omega arith

  -- in an arm of a match on the kind
  pub tconv_fits : Outputs l extent added → Tconv ≡ kind_of l → 2 * l.padding < (extent - 1) * l.stride + l.side + added
  unfolding tconv_size
  tconv_fits o e =
      let h = leb-true 1 (tconv_size extent l.side l.stride l.padding added) (rw (tconv_test l e) at o.some) in omega arith

  pub strides_high : ExtentInRange l extent added → (extent - 1) * l.stride ≤ 2044
  strides_high x = mul-le-mul {n₂ = 511} {m₂ = 4} (omega (arith, x.high)) x.shape.stride_high

  pub full_high : ExtentInRange l extent added → full_size l extent added ≤ 2058
  unfolding conv_size tconv_size
  full_high x =
      cond_le (is_conv l)
      (omega (arith, div-le_self (extent + 2 * l.padding - l.side) l.stride))
      (omega (arith, strides_high x, x.added_high))

module _ (first count full : ℕ) where
  pub crop_low : crop_fits first count full ≡ true → 1 ≤ count
  unfolding crop_fits
  crop_low e = leb-true 1 count (both_true (leb 1 count) (leb (first + count) full) e).0

  pub crop_end : crop_fits first count full ≡ true → first + count ≤ full
  unfolding crop_fits
  crop_end e = leb-true (first + count) full (both_true (leb 1 count) (leb (first + count) full) e).1
