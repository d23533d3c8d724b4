-- Laws of quotients: as many parts of d as the quotient rounded up cover n places, and the quotient rounded down tells the part of a place.
use Rattle.std.specs.Prelude.{◌≡◌, ℕ, suc, ◌+◌, ◌*◌, ◌-◌, ◌/◌, ◌%◌, ◌<◌, ◌≤◌, min}
use Rattle.std.proofs.Common.{sym, ap, ◌∙◌, div-lt_iff_lt-mul, div-mul-le_self, mul-le-mul_right, suc-mul, arith}
use Rattle.std.proofs.Math.Nat.{lt-div-mul-add}
use Rattle.std.proofs.Math.Arith.{digits_div}
use Rattle.std.proofs.lemmas.Grind.{div_ceil_times}
use Rattle.base.specs.Number.{ceiling_div}

-- so many parts of d cover n places
pub ceiling_covers : (n d : ℕ) → 0 < d → n ≤ ceiling_div n d * d
unfolding ceiling_div
ceiling_covers n d some = omega (arith, lt-div-mul-add {a = n + d - 1} {b = d} some)

pub ceiling_lt : (n d x : ℕ) → 0 < d → x < n → x / d < ceiling_div n d
ceiling_lt n d x some l = (div-lt_iff_lt-mul some).1 (omega (arith, ceiling_covers n d some))

-- and each of them starts below n
pub ceiling_starts : (n d t : ℕ) → 0 < d → t < ceiling_div n d → t * d < n
unfolding ceiling_div
ceiling_starts n d t some l =
    let least : suc t * d ≤ (n + d - 1) / d * d = mul-le-mul_right d l in
    omega (arith, div-mul-le_self (n + d - 1) d, suc-mul t d)

-- it is the first number whose multiple by d is at least n
pub ceiling_le : (n d e : ℕ) → 1 ≤ d → n ≤ e * d → ceiling_div n d ≤ e
unfolding ceiling_div
ceiling_le n d e some l =
    let q : (n + d - 1) / d < e + 1 = (div-lt_iff_lt-mul some).1 (omega arith) in
    omega arith

pub le_ceiling : (n d e : ℕ) → 1 ≤ d → ceiling_div n d ≤ e → n ≤ e * d
unfolding ceiling_div
le_ceiling n d e some l =
    let q : n + d - 1 < (e + 1) * d = (div-lt_iff_lt-mul {k = d} {x = n + d - 1} {y = e + 1} some).0 (omega arith) in
    omega arith

-- a quotient is known by the part that holds the dividend
pub quotient_low : (d x t : ℕ) → x / d ≡ t → t * d ≤ x
quotient_low d x t e = omega (arith, div-mul-le_self x d, ap (λ (k : ℕ). k * d) e)

pub quotient_high : (d x t : ℕ) → 0 < d → x / d ≡ t → x < t * d + d
quotient_high d x t some e = omega (arith, lt-div-mul-add {a = x} {b = d} some, ap (λ (k : ℕ). k * d) e)

pub quotient_is : (d x t : ℕ) → t * d ≤ x → x < t * d + d → x / d ≡ t
quotient_is d x t low high =
    let e : x ≡ t * d + (x - t * d) = omega arith in
    ap (λ (k : ℕ). k / d) e ∙ digits_div t (omega arith)

-- a quotient rounded up is the quotient rounded down, and one more where something remains
pub div_ceil_is : (n d : ℕ) → 0 < d → n / d + min 1 (n % d) ≡ ceiling_div n d
unfolding ceiling_div
div_ceil_is n d some =
    let low : (n / d + min 1 (n % d)) * d ≤ n + d - 1 = omega (arith, div_ceil_times n d some) in
    let high : n + d - 1 < (n / d + min 1 (n % d)) * d + d = omega (arith, div_ceil_times n d some) in
    sym (quotient_is d (n + d - 1) (n / d + min 1 (n % d)) low high)
