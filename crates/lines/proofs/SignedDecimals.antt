-- A value in base ten is its sign and then its size. One of 32 bits takes at most 11 bytes. It rests on the count of a number's digits.
use mathlib.Core.Path.{◌≡◌, refl}
use mathlib.Core.Bool.{true, false}
use mathlib.Core.List.{List, [], ◌∷◌, ◌++◌}
use Prim.Native.Nat.{ℕ, suc, ◌≤◌}
use native.Mathlib.Omega.{arith}
use borrow.Author.Tests.{ltb-true}
use lib.IntN.{ℤ, pos, negsuc, nat_abs}
use lib.ListN.{length, length-append}
use lib.Signed.{lt_z}
use mir.Syntax.{w32}
use mir.Val.{SFits}
use Rattle.lines.specs.Lines.{decimal, signed_decimal}
use Rattle.lines.specs.DecimalLaws.{decimal_few}

-- a minus sign below 0, else nothing
unfoldable pub sign : ℤ → List ℕ
sign (pos n) = []
sign (negsuc n) = 45 ∷ []

pub sign_below : (z : ℤ) → lt_z z (pos 0) ≡ true → sign z ≡ 45 ∷ []
unfolding sign
sign_below (pos n) e = let l = ltb-true n 0 e in absurd (omega arith)
sign_below (negsuc n) e = refl

pub sign_above : (z : ℤ) → lt_z z (pos 0) ≡ false → sign z ≡ []
unfolding sign
sign_above (pos n) e = refl
sign_above (negsuc n) e = cc

pub sign_size : (z : ℤ) → signed_decimal z ≡ sign z ++ decimal (nat_abs z)
unfolding sign signed_decimal
sign_size (pos n) = refl
sign_size (negsuc n) = refl

pub sign_long : (z : ℤ) → length (sign z) ≤ 1
unfolding sign
sign_long (pos n) = omega arith
sign_long (negsuc n) = omega arith

pub size_few : (z : ℤ) → SFits w32 z → length (decimal (nat_abs z)) ≤ 10
size_few (pos n) f = decimal_few n 10 (omega arith) (omega (arith, f.sfits))
size_few (negsuc n) f = decimal_few (suc n) 10 (omega arith) (omega (arith, f.sfits))

pub signed_few : (z : ℤ) → SFits w32 z → length (signed_decimal z) ≤ 11
signed_few z f = rw (sign_size z, length-append) (omega (arith, sign_long z, size_few z f))
