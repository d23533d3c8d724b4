-- A layer's kind, the test for CONV and the kind number say the same. The arms of a match on the kind need these.
use Rattle.std.specs.Prelude.{◌≡◌, refl, Bool, true, false, cond}
use borrow.Author.Tests.{eqb-true, eqb-false}
use Rattle.layer.specs.declared.shape.Layer.{Layer}
use Rattle.layer.specs.declared.shape.Kind.TheVariants.{Conv, Tconv}
use Rattle.layer.specs.Shape.{is_conv, kind_of}

-- by the test
conv_when : (t : Bool) → Conv ≡ cond t Conv Tconv → t ≡ true
conv_when true e = refl
conv_when false e = absurd (cc)

tconv_when : (t : Bool) → Tconv ≡ cond t Conv Tconv → t ≡ false
tconv_when true e = absurd (cc)
tconv_when false e = refl

module _ (l : Layer) where
  pub conv_test : Conv ≡ kind_of l → is_conv l ≡ true
  conv_test e = conv_when (is_conv l) e

  pub tconv_test : Tconv ≡ kind_of l → is_conv l ≡ false
  tconv_test e = tconv_when (is_conv l) e

  pub conv_number : Conv ≡ kind_of l → l.kind ≡ 0
  conv_number e = eqb-true l.kind 0 (conv_test e)

  pub tconv_number : Tconv ≡ kind_of l → l.kind ≡ 0 → ⊥
  tconv_number e = eqb-false l.kind 0 (tconv_test e)
