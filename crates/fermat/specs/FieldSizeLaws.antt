-- The sizes of the fields up to F_5: the machine's words hold their numbers, and its shifts cut nothing.
use Rattle.std.specs.Prelude.{◌≡◌, ℕ, zero, suc, ◌+◌, ◌-◌, ◌*◌, ◌%◌, ◌^◌, ◌<◌, ◌≤◌}
use Rattle.std.proofs.Common.{ap, ◌∙◌, arith, pow_mono, shl_exact}
use Rattle.std.proofs.Math.Nat.{two-pow-succ}
use Rattle.fermat.specs.Field.{scale}
use Rattle.fermat.specs.FieldLaws.{exponent_lt}

-- a power of 2 by the machine's shift
pub one_shl : (s : ℕ) → s ≤ 32 → (1 * 2 ^ s) % 2 ^ 64 ≡ 2 ^ s
one_shl s l = shl_exact {a = 1} 1 s 64 (omega arith) (omega arith) ∙ omega arith

-- the same, the exponent by another name
pub shifted : {s e : ℕ} → s ≡ e → e ≤ 32 → (1 * 2 ^ s) % 2 ^ 64 ≡ 2 ^ e
shifted {s} {e} same small = one_shl s (omega arith) ∙ ap (λ (i : ℕ). 2 ^ i) same

module _ (t : ℕ) where
  -- the halvings are at most as many as the bits
  pub halvings_le : t + 1 ≤ 2 ^ t
  halvings_le = omega (arith, exponent_lt t)

  pub rest_le : 2 ^ (2 ^ t - (t + 1)) ≤ 2 ^ (2 ^ t)
  rest_le = pow_mono (less (2 ^ t) (t + 1))
    where
      less : (n k : ℕ) → n - k ≤ n
      less n k = omega arith

module _ (t : ℕ) (high : t ≤ 5) where
  pub bits_high : 2 ^ t ≤ 32
  bits_high = pow_mono {i = t} {j = 5} high

  pub power_high : 2 ^ (2 ^ t) ≤ 4294967296
  power_high = pow_mono {i = 2 ^ t} {j = 32} bits_high

-- 1/N is less than 2 ^ 32
pub scale_lt : (t : ℕ) → 2 ≤ t → t ≤ 5 → scale t < 4294967296
scale_lt t low high =
    let least : 2 ≤ 2 ^ (2 ^ t - (t + 1)) = pow_mono {i = 1} {j = 2 ^ t - (t + 1)} (omega (arith, more t low)) in
    omega (arith, power_high t high)
  where
    more : (t : ℕ) → 2 ≤ t → t + 2 ≤ 2 ^ t
    more zero low = absurd (omega arith)
    more (suc u) low = omega (arith, exponent_lt u, two-pow-succ u)
