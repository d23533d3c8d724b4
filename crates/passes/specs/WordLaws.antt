-- Laws of single words: a word times a power of 2, and what each butterfly makes of two words.
use Rattle.std.specs.Prelude.{◌≡◌, refl, ℕ, zero, suc, ◌+◌, ◌-◌, ◌*◌, ◌/◌, ◌%◌, ◌^◌, ◌≤◌, ◌<◌}
use Rattle.std.proofs.Common.{sym, ap, ◌∙◌, subst, mul_assoc, add-mul, mul-le-mul_right, mod-lt, le_trans, one-mul, arith, pow_pos, pow_mono, pow-add, shl_exact, shl_lt}
use Rattle.std.proofs.Math.Nat.{div-le_of_le-mul}
use Rattle.std.proofs.Math.Pow.{split}
use Rattle.algebra.specs.Congruence.{Cong}
use Rattle.algebra.specs.CongruenceLaws.{c_eq, c_refl, c_sym, ◌⨟◌, c_via, c_add, c_mul, c_multiple}
use Rattle.passes.specs.Butterfly.{Multiple, Bound, TimesPower, Parted, Joined}

-- ---- multiples of the modulus

module _ {b c : ℕ} (multiple : Multiple b c) where
  pub multiple_above : 2 ^ b < c
  multiple_above =
      let le : 1 * (2 ^ b + 1) ≤ multiple.times * (2 ^ b + 1) = mul-le-mul_right (2 ^ b + 1) multiple.some in
      omega (arith, one-mul (2 ^ b + 1), multiple.is)

  pub multiple_none : Cong (2 ^ b + 1) c 0
  multiple_none = c_via (multiple.is ∙ omega arith) (c_multiple 0 multiple.times) refl

  pub multiple_times : (q : ℕ) → 0 < q → Multiple b (c * q)
  multiple_times q some = record {
    bits_low = multiple.bits_low;
    bits_high = multiple.bits_high;
    times = multiple.times * q;
    some = above multiple.times q multiple.some some;
    is = ap (λ (i : ℕ). i * q) multiple.is ∙ regroup multiple.times (2 ^ b + 1) q;
  }
    where
      above : (a q : ℕ) → 0 < a → 0 < q → 0 < a * q
      above (suc a) (suc q) _ _ = omega arith
      above zero q h _ = absurd (omega arith)
      above (suc a) zero _ h = absurd (omega arith)

      regroup : (a m q : ℕ) → a * m * q ≡ a * q * m
      regroup a m q = omega arith

-- a bound is a multiple too
pub bound_multiple : {b c : ℕ} → Bound b c → Multiple b c
bound_multiple {b} {c} bound =
    let e : c / 2 * 2 ≡ c = omega (arith, bound.even) in
    subst (λ (i : ℕ). Multiple b i) e (multiple_times bound.halved 2 (omega arith))

-- a multiple of a bound is a bound
pub bound_times : {b c : ℕ} → Bound b c → (q : ℕ) → 0 < q → c * q < 9223372036854775808 → Bound b (c * q)
bound_times {b} {c} bound q some fits =
    let whole : c * q ≡ 2 * (c / 2 * q) = ap (λ (i : ℕ). i * q) bound.even ∙ mul_assoc 2 (c / 2) q in
    let half : c / 2 * q ≡ c * q / 2 = omega arith in
    record { even = omega arith; halved = subst (λ (i : ℕ). Multiple b i) half (multiple_times bound.halved q some); fits = fits }

-- ---- shifts

module _ {b c : ℕ} (multiple : Multiple b c) (t d : ℕ) (lt : t < b) (small : d ≤ 2 * c) where
  together : 2 ^ b ≡ 2 ^ (b - t) * 2 ^ t
  together = ap (λ (i : ℕ). 2 ^ i) (parts b t lt) ∙ pow-add 2 (b - t) t
    where
      parts : (b t : ℕ) → t < b → b ≡ b - t + t
      parts b t l = omega arith

  pub shl_low : (d % 2 ^ (b - t) * 2 ^ t) % 2 ^ 64 ≡ d % 2 ^ (b - t) * 2 ^ t
  shl_low = shl_exact (b - t) t 64 (mod-lt d (pow_pos (b - t))) (omega (arith, multiple.bits_high))

  pub low_lt : d % 2 ^ (b - t) * 2 ^ t < 2 ^ b
  low_lt = rw (pow-add 2 (b - t) t ∙ sym together) at (shl_lt (b - t) t (mod-lt d (pow_pos (b - t))))

  pub high_le : d / 2 ^ (b - t) ≤ c
  high_le =
      let two : 2 ≤ 2 ^ (b - t) = pow_mono {i = 1} {j = b - t} (omega arith) in
      div-le_of_le-mul (2 ^ (b - t)) {m = d} {n = c} (le_trans small (mul-le-mul_right c two))

  -- the low bits moved up, less the high ones: 2 ^ b is −1
  pub times_power_law : TimesPower b c d t (d % 2 ^ (b - t) * 2 ^ t + c - d / 2 ^ (b - t))
  times_power_law =
      let q : ℕ = d / 2 ^ (b - t) in
      let r : ℕ = d % 2 ^ (b - t) in
      let z : ℕ = r * 2 ^ t + c - q in
      let whole : d * 2 ^ t ≡ q * 2 ^ b + r * 2 ^ t =
      ap (λ (i : ℕ). i * 2 ^ t) (sym (split d (b - t))) ∙ add-mul (q * 2 ^ (b - t)) r (2 ^ t)
      ∙ ap (λ (i : ℕ). i + r * 2 ^ t) (mul_assoc q (2 ^ (b - t)) (2 ^ t) ∙ ap (λ (i : ℕ). q * i) (sym together)) in
      let back : z + q * (2 ^ b + 1) ≡ d * 2 ^ t + c = omega (arith, whole, high_le) in
      record {
        value = c_sym (c_multiple z q) ⨟ c_eq back ⨟ c_via refl (c_add (c_refl {a = d * 2 ^ t}) (multiple_none multiple)) (omega arith);
        bound = omega (arith, low_lt);
      }

-- ---- butterflies

module _ {b c : ℕ} (bound : Bound b c) (u v : ℕ) (lu : u ≤ c) (lv : v ≤ c) where
  pub plain_law : Parted (2 ^ b + 1) (2 * c) 1 u v (u + v) (u + c - v)
  plain_law = record {
    plus = c_refl;
    minus = c_via {a' = u + c} (omega arith) (c_add (c_refl {a = u}) (multiple_none (bound_multiple bound))) (omega arith);
    low = omega arith;
    high = omega arith;
  }

  pub forward_law : (t z : ℕ) → TimesPower b c (u + c - v) t z → Parted (2 ^ b + 1) (2 * c) (2 ^ t) u v (u + v) z
  forward_law t z product =
      let s : ℕ = 2 ^ t in
      let e : u + c - v + v ≡ u + c = omega arith in
      let back : (u + c - v) * s + v * s ≡ u * s + c * s = sym (add-mul (u + c - v) v s) ∙ ap (λ (i : ℕ). i * s) e ∙ add-mul u c s in
      record {
        plus = c_refl;
        minus = c_add product.value (c_refl {a = v * s}) ⨟ c_eq back
            ⨟ c_via refl (c_add (c_refl {a = u * s}) (c_mul (multiple_none (bound_multiple bound)) (c_refl {a = s}))) (omega arith);
        low = omega arith;
        high = omega (arith, product.bound, multiple_above (bound_multiple bound));
      }

  -- w is the second word turned by s
  pub inverse_fits : (s w : ℕ) → TimesPower b (c / 2) v s w → w ≤ c
  inverse_fits s w product = omega (arith, product.bound, multiple_above bound.halved, bound.even)

  pub inverse_law : (s w : ℕ) → TimesPower b (c / 2) v s w → Joined (2 ^ b + 1) (2 * c) (2 ^ s) u v (u + c - w) (u + w)
  inverse_law s w product =
      let small : w ≤ c = inverse_fits s w product in
      record {
        minus = c_add (c_refl {a = u + c - w}) (c_sym product.value)
            ⨟ c_via {a' = u + c} (omega arith) (c_add (c_refl {a = u}) (multiple_none (bound_multiple bound))) (omega arith);
        plus = c_add (c_refl {a = u}) product.value;
        low = omega arith;
        high = omega arith;
      }

-- a plain butterfly is the inverse one with the power 1, since 2 ^ b is −1
pub plain_inverse : (b : ℕ) {e u v y z : ℕ} → Parted (2 ^ b + 1) e 1 u v y z → Joined (2 ^ b + 1) e (2 ^ b) u v y z
plain_inverse b {e} {u} {v} {y} {z} p = record {
  minus = c_add p.plus (c_refl {a = v * 2 ^ b}) ⨟ c_via (omega arith) (c_multiple u v) refl;
  plus = c_sym (c_multiple z v) ⨟ c_via (omega arith) (c_add p.minus (c_refl {a = v * 2 ^ b})) (omega arith);
  low = p.low;
  high = p.high;
}
