-- A bound on words can be known in one way only, so that a struct may keep it as an invariant.
use Rattle.std.specs.Prelude.{◌≡◌, ℕ, ◌+◌, ◌*◌, ◌/◌, ◌^◌, ◌<◌, ◌≤◌}
use Rattle.std.proofs.Common.{sym, ◌∙◌, subst, arith}
use Rattle.std.proofs.Props.{props}
use native.Mathlib.Nat.{eq_of_mul-eq-mul_right}
use Rattle.passes.specs.Butterfly.{Multiple, Bound}

-- the same multiple, said with another number that is the same
same_multiple : {b c : ℕ} (x : Multiple b c) (t : ℕ) → x.times ≡ t → (low : 0 < b) (high : b ≤ 32) (some : 0 < t) (is : c ≡ t * (2 ^ b + 1))
    → x ≡ record { bits_low = low; bits_high = high; times = t; some = some; is = is }
same_multiple {b} {c} x t same = subst Says same at_own
  where
    Says : ℕ → Type 0
    Says t = (low : 0 < b) (high : b ≤ 32) (some : 0 < t) (is : c ≡ t * (2 ^ b + 1))
        → x ≡ record { bits_low = low; bits_high = high; times = t; some = some; is = is }

    at_own : Says x.times
    at_own low high some is =
        let low_prop : IsProp (0 < b) = Prim.hlevel props in
        let high_prop : IsProp (b ≤ 32) = Prim.hlevel props in
        let some_prop : IsProp (0 < x.times) = Prim.hlevel props in
        let is_prop : IsProp (c ≡ x.times * (2 ^ b + 1)) = Prim.hlevel props in
        λ i. record {
          bits_low = low_prop x.bits_low low i;
          bits_high = high_prop x.bits_high high i;
          times = x.times;
          some = some_prop x.some some i;
          is = is_prop x.is is i;
        }

pub Multiple-prop : (b c : ℕ) → IsProp (Multiple b c)
Multiple-prop b c x y =
    let same : x.times ≡ y.times = eq_of_mul-eq-mul_right (2 ^ b + 1) (omega arith) x.times y.times (sym x.is ∙ y.is) in
    same_multiple x y.times same y.bits_low y.bits_high y.some y.is

pub Bound-prop : (b c : ℕ) → IsProp (Bound b c)
Bound-prop b c x y =
    let even_prop : IsProp (c ≡ 2 * (c / 2)) = Prim.hlevel props in
    let fits_prop : IsProp (c < 9223372036854775808) = Prim.hlevel props in
    λ i. record {
      even = even_prop x.even y.even i;
      halved = Multiple-prop b (c / 2) x.halved y.halved i;
      fits = fits_prop x.fits y.fits i;
    }
