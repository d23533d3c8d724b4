-- Laws of `nearest`, the division of a size by 2^shift: it is the nearest whole number, halves going up; it is monotone, and sizes that are
-- near have quotients that are near. They rest on the division of naturals.
use Rattle.std.specs.Prelude.{◌≡◌, refl, Bool, true, false, cond, ℕ, ◌+◌, ◌*◌, ◌/◌, ◌%◌, ◌^◌, ◌<◌, ◌≤◌}
use Rattle.std.proofs.Common.{sym, ◌∙◌, mod-lt, div-add-mod', le-div_iff_mul-le, div-lt_iff_lt-mul, arith, leb-true, leb-false, pow_pos}
use Rattle.std.proofs.Math.Nat.{div-eq_of_lt-le}
use Rattle.std.proofs.Math.Pow.{shr_mono}
use Rattle.levels.specs.Level.{half_or_more, nearest}

-- ---- one division: half of 2^shift is added, and the quotient rounded down

less_than_half : (m r : ℕ) → half_or_more m r ≡ false → 2 * r < m
unfolding half_or_more
less_than_half m r e = leb-false m (2 * r) e

half_or_more_lem : (m r : ℕ) → half_or_more m r ≡ true → m ≤ 2 * r
unfolding half_or_more
half_or_more_lem m r e = leb-true m (2 * r) e

half_added : {m : ℕ} (n : ℕ) → 0 < m → n / m + cond (half_or_more m (n % m)) 1 0 ≡ (n + m / 2) / m
half_added {m} n some = go (half_or_more m (n % m)) refl
  where
    go : (t : Bool) → half_or_more m (n % m) ≡ t → n / m + cond t 1 0 ≡ (n + m / 2) / m
    go true e =
        let up = half_or_more_lem m (n % m) e in
        sym (div-eq_of_lt-le m (omega (arith, div-add-mod' n m)) (omega (arith, div-add-mod' n m, mod-lt n some)))
    go false e =
        let down = less_than_half m (n % m) e in
        sym (div-eq_of_lt-le m (omega (arith, div-add-mod' n m)) (omega (arith, div-add-mod' n m)))

pub nearest_is : (shift n : ℕ) → nearest shift n ≡ (n + 2 ^ shift / 2) / 2 ^ shift
unfolding nearest
nearest_is shift n = half_added n (pow_pos shift)

-- ---- the nearest whole number, halves going up

-- q · 2^shift is at most half of 2^shift above n, and less than half of it below n; q alone is so
pub record Nearest (shift n q : ℕ) : Type 0 where
  pub above : 2 * (q * 2 ^ shift) ≤ 2 * n + 2 ^ shift
  pub below : 2 * n < 2 * (q * 2 ^ shift) + 2 ^ shift

-- what a quotient rounded down says, and a divisor more
quotient : {m : ℕ} (x : ℕ) → 0 < m → (x / m * m ≤ x) × (x < x / m * m + m)
quotient {m} x some = (omega (arith, div-add-mod' x m), omega (arith, div-add-mod' x m, mod-lt x some))

one_more : {m : ℕ} (x : ℕ) → 0 < m → (x + m) / m ≡ x / m + 1
one_more {m} x some = div-eq_of_lt-le m (omega (arith, quotient x some)) (omega (arith, quotient x some))

pub nearest-nearest : (shift n : ℕ) → Nearest shift n (nearest shift n)
nearest-nearest shift n =
    let b = quotient (n + 2 ^ shift / 2) (pow_pos shift) in
    rw (nearest_is shift n) (record { above = omega (arith, b); below = omega (arith, b) })

pub nearest_only : (shift n q : ℕ) → Nearest shift n q → nearest shift n ≡ q
nearest_only shift n q h = nearest_is shift n ∙ div-eq_of_lt-le (2 ^ shift) (omega (arith, h.above)) (omega (arith, h.below))

pub nearest_zero : (shift : ℕ) → nearest shift 0 ≡ 0
nearest_zero shift = nearest_only shift 0 0 (record { above = omega arith; below = omega (arith, pow_pos shift) })

pub nearest_unshifted : (n : ℕ) → nearest 0 n ≡ n
nearest_unshifted n = nearest_only 0 n n (record { above = omega arith; below = omega arith })

-- ---- order and distance

pub nearest_monotone : (shift : ℕ) {a b : ℕ} → a ≤ b → nearest shift a ≤ nearest shift b
nearest_monotone shift {a} {b} l =
    rw (nearest_is shift a, nearest_is shift b) (shr_mono {a = a + 2 ^ shift / 2} {b = b + 2 ^ shift / 2} shift (omega arith))

-- sizes at most d apart
pub nearest_near : (shift d a b : ℕ) → a ≤ b + d → nearest shift a ≤ nearest shift b + (d / 2 ^ shift + 1)
nearest_near shift d a b l =
    let m>0 = pow_pos shift in
    let x : ℕ = a + 2 ^ shift / 2 in
    let y : ℕ = b + 2 ^ shift / 2 in
    let below : x < (y / 2 ^ shift + (d / 2 ^ shift + 2)) * 2 ^ shift = omega (arith, (quotient y m>0).1, (quotient d m>0).1) in
    rw (nearest_is shift a, nearest_is shift b) (omega (arith, (div-lt_iff_lt-mul m>0).1 below))

-- sizes on the two sides of zero, at most d in all
pub nearest-across : (shift d a b : ℕ) → a + b ≤ d → nearest shift a + nearest shift b ≤ d / 2 ^ shift + 1
nearest-across shift d a b l =
    let m>0 = pow_pos shift in
    let p : ℕ = nearest shift a in
    let q : ℕ = nearest shift b in
    let within : (p + q) * 2 ^ shift ≤ d + 2 ^ shift = omega (arith, (nearest-nearest shift a).above, (nearest-nearest shift b).above) in
    omega (arith, (le-div_iff_mul-le m>0).1 within, one_more d m>0)
