-- `word` adds the modulus in 64 bits, where the sum is not below 0.
use Rattle.std.proofs.Common.{◌≡◌, refl, ℕ, suc, ◌+◌, ◌-◌, ◌^◌, ◌<◌, ◌≤◌, ℤ, pos, negsuc, ◌+ℤ◌, w16, w64, arith}
use borrow.Author.Tests.{le-ltb}
use lib.IntN.{pos-+ℤ-pos}
use lib.Signed.{mag}
use mir.Val.{SFits}
use mir.Facts.{to_z-of_z, to_z_pos, sfits_widen}
use Rattle.algebra.specs.Integer.{difference_pos, difference_negsuc, difference_eq, ring}
use Rattle.spectrum.specs.Value.{Word}
use Rattle.spectrum.proofs.value.word.Goals as goal

-- z and m
unfoldable lifted : ℕ → ℤ → ℕ
lifted m (pos n) = n + m
lifted m (negsuc n) = m - suc n

module _ (m : ℕ) (low : 32768 ≤ m) where
  sum_is : (z : ℤ) → mag z < 2 ^ 15 → z +ℤ pos m ≡ pos (lifted m z)
  unfolding lifted
  sum_is (pos n) h = pos-+ℤ-pos n m
  sum_is (negsuc n) h = rw (le-ltb m (suc n) (omega arith)) refl

  lifted_word : (z : ℤ) → mag z < 2 ^ 15 → Word m z (lifted m z)
  unfolding lifted
  lifted_word (pos n) h = record {
    value = record { multiple = negsuc 0; equation = simp (difference_pos, ring) (difference_eq _ _ _ _ (omega arith)) };
    bound = omega arith;
  }
  lifted_word (negsuc n) h = record {
    value = record { multiple = negsuc 0; equation = simp (difference_pos, difference_negsuc, ring) (difference_eq _ _ _ _ (omega arith)) };
    bound = omega arith;
  }

pub returns : goal.returns
returns c =
    let m = c.args.modulus in
    let z = c.args.value in
    let small = c.ranges.value.sfits in
    let made = lifted_word m c.requires.0 z small in
    let sum_fits : SFits w64 (pos (lifted m z)) = record { sfits = omega (arith, made.bound) } in
    rw (
      c.from.ensures,
      to_z-of_z c.ranges.value,
      to_z-of_z (sfits_widen {w = w16} {w' = w64} tt c.ranges.value),
      to_z_pos w64 {n = m} (omega arith),
      sum_is m c.requires.0 z small,
      to_z-of_z sum_fits,
    ) made
