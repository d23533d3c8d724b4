-- The geometric sum 1 + a + .. + a^(n − 1) of a multiplier a = 4q + 1: 2^k divides it where 2^k divides n, and nowhere else. By induction on k:
-- the sum is even where n is even, and the sum of 2m powers is twice the sum of m powers times an odd number.
use Rattle.std.specs.Prelude.{◌≡◌, ℕ, zero, suc, ◌+◌, ◌*◌, ◌/◌, ◌%◌, ◌^◌}
use Rattle.std.proofs.Math.Path.{refl, ap}
use Rattle.std.proofs.Common.{◌∙◌}
use Rattle.std.specs.Int.{◌∣◌}
use Rattle.std.proofs.Math.Nat.{one-dvd, dvd_trans, dvd-mul_right, dvd-mul_right_of_dvd, mul-dvd-mul_left, dvd_of_mul-dvd-mul_left, mod-eq-zero_of_dvd, pow-zero, two-pow-succ}
use native.Mathlib.Omega.{arith}

-- ---- dividing by a power of 2

two_pow_twice : (k : ℕ) → 2 ^ suc k ≡ 2 * 2 ^ k
two_pow_twice k = omega (arith, two-pow-succ k)

even : (k : ℕ) {y : ℕ} → 2 ^ suc k ∣ y → y % 2 ≡ 0
even k h = mod-eq-zero_of_dvd _ (dvd_trans _ (dvd-mul_right 2 (2 ^ k)) (rw (two_pow_twice k) at h))

-- 2^(k + 1) divides 2x where 2^k divides x, and nowhere else
module _ (k : ℕ) {x y : ℕ} (twice : y ≡ 2 * x) where
  doubled : 2 ^ k ∣ x → 2 ^ suc k ∣ y
  doubled h = rw (two_pow_twice k, twice) (mul-dvd-mul_left _ 2 h)

  halved : 2 ^ suc k ∣ y → 2 ^ k ∣ x
  halved h = dvd_of_mul-dvd-mul_left _ (omega arith) (rw (two_pow_twice k, twice) at h)

-- an odd factor has no factor 2
pub odd_factor : (k x d : ℕ) → d % 2 ≡ 1 → 2 ^ k ∣ x * d → 2 ^ k ∣ x
odd_factor zero x d odd h = rw (pow-zero 2) (one-dvd x)
odd_factor (suc k) x d odd h =
    let pair : d ≡ 2 * (d / 2) + 1 = omega arith in
    let parity : x * d ≡ 2 * (x * (d / 2)) + x = ap (λ (n : ℕ). x * n) pair ∙ omega arith in
    let twice : x ≡ 2 * (x / 2) = omega (arith, parity, even k h) in
    let product : x * d ≡ 2 * (x / 2 * d) = ap (λ (n : ℕ). n * d) twice ∙ omega arith in
    doubled k twice (odd_factor k (x / 2) d odd (halved k product h))

-- ---- the sum

-- 1 + a + .. + a^(n − 1)
unfoldable pub geometric : (a n : ℕ) → ℕ
geometric a zero = 0
geometric a (suc n) = a * geometric a n + 1

module _ (q : ℕ) where
  abbrev total : ℕ → ℕ
  total = geometric (4 * q + 1)

  total_add : (m n : ℕ) → total (m + n) ≡ total n + (1 + 4 * (q * total n)) * total m
  unfolding geometric
  total_add zero n = let e : 0 + n ≡ n = omega arith in rw e (omega arith)
  total_add (suc m) n =
      let e : suc m + n ≡ suc (m + n) = omega arith in
      rw e (omega (arith, ap (λ (t : ℕ). (4 * q + 1) * t) (total_add m n)))

  -- the second factor is odd
  total_twice : (m : ℕ) → total (2 * m) ≡ 2 * (total m * (1 + 2 * (q * total m)))
  total_twice m = let e : 2 * m ≡ m + m = omega arith in rw e (total_add m m ∙ omega arith)

  total_parity : (n : ℕ) → total n % 2 ≡ n % 2
  unfolding geometric
  total_parity zero = refl
  total_parity (suc n) = omega (arith, total_parity n)

  pub divides_total : (k n : ℕ) → 2 ^ k ∣ n → 2 ^ k ∣ total n
  divides_total zero n h = rw (pow-zero 2) (one-dvd (total n))
  divides_total (suc k) n h =
      let m : ℕ = n / 2 in
      let twice : n ≡ 2 * m = omega (arith, even k h) in
      doubled k (ap total twice ∙ total_twice m)
      (dvd-mul_right_of_dvd _ (divides_total k m (halved k twice h)) (1 + 2 * (q * total m)))

  pub divides_only : (k n : ℕ) → 2 ^ k ∣ total n → 2 ^ k ∣ n
  divides_only zero n h = rw (pow-zero 2) (one-dvd n)
  divides_only (suc k) n h =
      let m : ℕ = n / 2 in
      let twice : n ≡ 2 * m = omega (arith, total_parity n, even k h) in
      let odd : (1 + 2 * (q * total m)) % 2 ≡ 1 = omega arith in
      doubled k twice (divides_only k m (odd_factor k (total m) _ odd (halved k (ap total twice ∙ total_twice m) h)))
