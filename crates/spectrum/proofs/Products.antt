-- The product of two words of F_5 that are not reduced.
use mathlib.Core.Path.{◌≡◌, ap, ◌∙◌}
use Prim.Native.Nat.{ℕ, ◌+◌, ◌-◌, ◌*◌, ◌/◌, ◌%◌, ◌≤◌}
use native.Mathlib.Nat.{mul-le-mul_left, mul-le-mul_right, le_trans}
use native.Mathlib.Omega.{arith}
use Rattle.algebra.specs.Congruence.{Cong}
use Rattle.algebra.specs.CongruenceLaws.{c_eq, c_sym, ◌⨟◌, c_multiple}
use Rattle.spectrum.specs.Product.{Product}

pub mul_most : {a b m n : ℕ} → a ≤ m → b ≤ n → a * b ≤ m * n
mul_most {a} {b} {m} {n} la lb = le_trans (mul-le-mul_left a lb) (mul-le-mul_right n la)

-- ---- from halves of 32 bits, where 2 ^ 32 is −1

-- a = ah B + al, c = ch B + cl
expand : (B ah al ch cl : ℕ) → (ah * B + al) * (ch * B + cl) ≡ ah * ch * (B * B) + ah * cl * B + al * ch * B + al * cl
expand B ah al ch cl = omega arith

-- with B = D + 1 and B + 1 the modulus
fold : (D K n X Y Z h l r : ℕ) → n ≡ X * ((D + 1) * (D + 1)) + Y * (D + 1) + Z * (D + 1) + (h * (D + 1) + l) → r + h + Y + Z ≡ l + K + X
    → r + (h + Y + Z + X * D) * (D + 2) ≡ n + K
fold D K n X Y Z h l r en er = omega arith

-- X, Y, Z are the products of halves, h and l the halves of that of the low ones; 70,373,039,161,345 is 16,385 times the modulus
module _ (X Y Z h l : ℕ) (lx : X ≤ 67108864) (ly : Y ≤ 35184372080640) (lz : Z ≤ 35184372080640) (lh : h ≤ 4294967295) (ll : l ≤ 4294967295) where
  back : l + 70373039161345 + X - h - Y - Z + h + Y + Z ≡ l + 70373039161345 + X
  back = omega arith

  low_enough : l + 70373039161345 + X - h - Y - Z ≤ 70377401237505
  low_enough = omega arith

  halves : (n : ℕ) → n ≡ X * (4294967296 * 4294967296) + Y * 4294967296 + Z * 4294967296 + (h * 4294967296 + l)
      → Cong 4294967297 (l + 70373039161345 + X - h - Y - Z) n
  halves n e =
      c_sym (c_multiple (l + 70373039161345 + X - h - Y - Z) (h + Y + Z + X * 4294967295))
      ⨟ c_eq (fold 4294967295 70373039161345 n X Y Z h l (l + 70373039161345 + X - h - Y - Z) e back) ⨟ c_multiple n 16385

-- the product of a and c, from their halves
abbrev from_halves : (ah al ch cl : ℕ) → ℕ
from_halves ah al ch cl = al * cl % 4294967296 + 70373039161345 + ah * ch - al * cl / 4294967296 - ah * cl - al * ch

pub product_5 : (a c : ℕ) → a ≤ 35184372097024 → c ≤ 35184372097024
    → Product 5 a c (from_halves (a / 4294967296) (a % 4294967296) (c / 4294967296) (c % 4294967296))
product_5 a c la lc =
    from (a / 4294967296) (a % 4294967296) (c / 4294967296) (c % 4294967296)
    (omega arith) (omega arith) (omega arith) (omega arith) (omega arith) (omega arith)
  where
    -- a number and its halves
    split : (p : ℕ) → p ≡ p / 4294967296 * 4294967296 + p % 4294967296
    split p = omega arith

    rest : (p : ℕ) → p % 4294967296 ≤ 4294967295
    rest p = omega arith

    quotient : {p : ℕ} → p ≤ 18446744065119617025 → p / 4294967296 ≤ 4294967295
    quotient h = omega arith

    from : (ah al ch cl : ℕ) → a ≡ ah * 4294967296 + al → c ≡ ch * 4294967296 + cl → ah ≤ 8192 → al ≤ 4294967295 → ch ≤ 8192 → cl ≤ 4294967295
        → Product 5 a c (from_halves ah al ch cl)
    from ah al ch cl ea ec lah lal lch lcl =
        let low : al * cl ≤ 4294967295 * 4294967295 = mul_most lal lcl in
        let X : ℕ = ah * ch in
        let Y : ℕ = ah * cl in
        let Z : ℕ = al * ch in
        let whole : a * c ≡ ah * ch * (4294967296 * 4294967296) + ah * cl * 4294967296 + al * ch * 4294967296
        + (al * cl / 4294967296 * 4294967296 + al * cl % 4294967296) =
        (λ i. ea i * ec i) ∙ expand 4294967296 ah al ch cl
        ∙ ap (λ (p : ℕ). ah * ch * (4294967296 * 4294967296) + ah * cl * 4294967296 + al * ch * 4294967296 + p) (split (al * cl)) in
        record {
          value = halves X Y Z (al * cl / 4294967296) (al * cl % 4294967296) (mul_most lah lch) (mul_most lah lcl) (mul_most lal lch)
              (quotient low) (rest (al * cl)) (a * c) whole;
          bound = low_enough X Y Z (al * cl / 4294967296) (al * cl % 4294967296) (mul_most lah lch) (mul_most lah lcl) (mul_most lal lch)
              (quotient low) (rest (al * cl));
        }
