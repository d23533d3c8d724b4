-- 2 is a root of length N modulo each Fermat number, whatever the exponent t; so every law of a root holds in F_4 and in F_5.
use Rattle.std.specs.Prelude.{◌≡◌, refl, ℕ, zero, suc, ◌+◌, ◌-◌, ◌*◌, ◌^◌, ◌≤◌, ◌<◌}
use Rattle.std.proofs.Common.{sym, ap, ◌∙◌, arith, pow-add, pow_pos, pow_mono}
use Rattle.std.proofs.Math.Nat.{mod_self, zero-mod, two-pow-succ, pow-succ'}
use Rattle.algebra.specs.CongruenceLaws.{c_via, c_multiple}
use Rattle.fermat.specs.Field.{modulus, transform_length, inverse_of_two, scale}
use Rattle.fermat.specs.RootLaws.{Root}

pub exponent_lt : (t : ℕ) → suc t ≤ 2 ^ t
exponent_lt zero = omega arith
exponent_lt (suc t) = omega (arith, exponent_lt t, two-pow-succ t)

-- where m is p q + 1 and d is m less q, p d is 1 modulo m
less_law : (p q k m d : ℕ) → p ≡ suc k → m ≡ p * q + 1 → m ≡ d + q → p * d ≡ 1 + k * m
less_law p q k m d a b c =
    let e : p * m ≡ p * d + p * q = ap (λ (x : ℕ). p * x) c ∙ omega arith in
    let f : p * m ≡ k * m + m = ap (λ (x : ℕ). x * m) a ∙ omega arith in
    omega arith

pub field_root : (t : ℕ) → Root (modulus t) 2 (inverse_of_two t) (scale t) t
field_root t =
    let q : ℕ = 2 ^ (2 ^ t - (t + 1)) in
    let long : suc t ≤ 2 ^ t = exponent_lt t in
    let two : 2 ^ (2 ^ t) ≡ 2 * 2 ^ (2 ^ t - 1) = ap (λ (x : ℕ). 2 ^ x) (up (2 ^ t) (pow_pos t)) ∙ pow-succ' 2 (2 ^ t - 1) in
    let parts : 2 ^ (2 ^ t) ≡ 2 ^ suc t * q = ap (λ (x : ℕ). 2 ^ x) (split t (2 ^ t) long) ∙ pow-add 2 (suc t) (2 ^ t - (t + 1)) in
    let small : q ≤ 2 ^ (2 ^ t) = pow_mono (less (2 ^ t) (t + 1)) in
    record {
      half_period = record { same = mod_self (modulus t) ∙ sym (zero-mod (modulus t)) };
      inverse = c_via (twice (2 ^ (2 ^ t)) (2 ^ (2 ^ t - 1)) two) (c_multiple 1 1) refl;
      length = c_via (less_law (2 ^ suc t) q (2 ^ suc t - 1) (modulus t) (scale t) (up (2 ^ suc t) (pow_pos (suc t))) (ap (λ (x : ℕ). x + 1) parts) (omega arith))
          (c_multiple 1 (2 ^ suc t - 1)) refl;
    }
  where
    up : (n : ℕ) → 0 < n → n ≡ suc (n - 1)
    up n h = omega arith

    split : (t n : ℕ) → suc t ≤ n → n ≡ suc t + (n - (t + 1))
    split t n h = omega arith

    less : (n k : ℕ) → n - k ≤ n
    less n k = omega arith

    twice : (a b : ℕ) → a ≡ 2 * b → 2 * (b + 1) ≡ 1 + 1 * (a + 1)
    twice a b e = omega arith

-- ---- 01: the figures of the two fields come out by computation

figures_4 : (modulus 4 ≡ 65537) × (transform_length 4 ≡ 32) × (inverse_of_two 4 ≡ 32769) × (scale 4 ≡ 63489)
figures_4 = (refl, refl, refl, refl)

figures_5 : (modulus 5 ≡ 4294967297) × (transform_length 5 ≡ 64) × (inverse_of_two 5 ≡ 2147483649) × (scale 5 ≡ 4227858433)
figures_5 = (refl, refl, refl, refl)
