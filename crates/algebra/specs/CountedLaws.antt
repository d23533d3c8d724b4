-- Laws of counts: those of the numbers below a bound, of those between two bounds, and of numbers of two digits below one of two digits. They rest on
-- the laws of sums.
use Rattle.std.specs.Prelude.{◌≡◌, refl, Bool, true, false, ◌&&◌, cond, ℕ, zero, suc, ◌+◌, ◌*◌, ◌/◌, ◌%◌, ◌<◌, ◌≤◌, min, leb, ltb}
use Rattle.std.proofs.Common.{sym, ap, ap₂, ◌∙◌, mul-le-mul_right, suc-mul, arith, le-leb, lt-ltb, le-ltb}
use Rattle.std.proofs.Math.Decide.{dec_lt}
use Rattle.std.proofs.Math.Arith.{digits_div, digits_mod}
use Rattle.std.proofs.lemmas.Bool.{lt-leb}
use Rattle.algebra.specs.SumLaws.{naturals, sum_none, sum_last, sum_cong, sum_add, sum_flat, sum_const, sum_mul_right}
use Rattle.algebra.specs.Counted.{counted}

-- tests that agree count the same
pub counted_same : (n : ℕ) {f g : ℕ → Bool} → ((i : ℕ) → i < n → f i ≡ g i) → counted n f ≡ counted n g
counted_same n same = sum_cong naturals n _ _ (λ i below. ap (λ (t : Bool). cond t 1 0) (same i below))

pub counted_all : (n : ℕ) {f : ℕ → Bool} → ((i : ℕ) → i < n → f i ≡ true) → counted n f ≡ n
counted_all n all = counted_same n {g = λ _. true} all ∙ sum_const n 1 ∙ omega arith

pub counted_none : (n : ℕ) {f : ℕ → Bool} → ((i : ℕ) → i < n → f i ≡ false) → counted n f ≡ 0
counted_none n none = counted_same n {g = λ _. false} none ∙ sum_const n 0 ∙ omega arith

-- those below a bound
pub counted_below : (n bound : ℕ) → counted n (λ i. ltb i bound) ≡ min n bound
counted_below zero bound = sum_none _ ∙ omega arith
counted_below (suc n) bound = sum_last n _ ∙ go (dec_lt n bound) (counted_below n bound)
  where
    go : Dec (n < bound) → counted n (λ i. ltb i bound) ≡ min n bound → counted n (λ i. ltb i bound) + cond (ltb n bound) 1 0 ≡ min (suc n) bound
    go (yes a) before = rw (before, lt-ltb n bound a) (omega arith)
    go (no a) before = rw (before, le-ltb n bound (omega arith)) (omega arith)

-- those whose value lies below the first of two bounds, then those between the bounds
pub counted_between : (n : ℕ) (value : ℕ → ℕ) (from to : ℕ) → from ≤ to
    → counted n (λ i. ltb (value i) from) + counted n (λ i. leb from (value i) && ltb (value i) to) ≡ counted n (λ i. ltb (value i) to)
counted_between n value from to order =
    sym (sum_add naturals n _ _) ∙ sum_cong naturals n _ _ (λ i below. go (value i) (dec_lt (value i) from) (dec_lt (value i) to))
  where
    go : (v : ℕ) → Dec (v < from) → Dec (v < to) → cond (ltb v from) 1 0 + cond (leb from v && ltb v to) 1 0 ≡ cond (ltb v to) 1 0
    go v (yes a) _ = rw (lt-ltb v from a, lt-leb from v a, lt-ltb v to (omega arith)) refl
    go v (no a) (yes b) = rw (le-ltb v from (omega arith), le-leb from v (omega arith), lt-ltb v to b) refl
    go v (no a) (no b) = rw (le-ltb v from (omega arith), le-leb from v (omega arith), le-ltb v to (omega arith)) refl

-- ---- numbers of two digits, a high and a low one, the low one below the base: those below a number of two digits

module _ (m base high low : ℕ) (last : ℕ → ℕ) (fits : low ≤ base) (digit : (j : ℕ) → j < m → last j < base) where
  abbrev bound : ℕ
  bound = high * base + low

  -- those whose last digit is below the bound's
  abbrev lower : ℕ
  lower = counted m (λ j. ltb (last j) low)

  multiple : (a b : ℕ) → a < b → a * base + base ≤ b * base
  multiple a b less = omega (arith, suc-mul a base, mul-le-mul_right base less)

  shifted : (v : ℕ) → ltb (high * base + v) bound ≡ ltb v low
  shifted v = go (dec_lt v low)
    where
      go : Dec (v < low) → ltb (high * base + v) bound ≡ ltb v low
      go (yes a) = lt-ltb (high * base + v) bound (omega arith) ∙ sym (lt-ltb v low a)
      go (no a) = le-ltb (high * base + v) bound (omega arith) ∙ sym (le-ltb v low (omega arith))

  -- with one high digit: all of them where it is below the bound's, those lower where it is the bound's, none where it is above
  one_high : (first : ℕ)
      → counted m (λ j. ltb (first * base + last j) bound) + cond (ltb first high) 1 0 * lower
      ≡ cond (ltb first high) 1 0 * m + cond (ltb first (suc high)) 1 0 * lower
  one_high first = go (dec_lt first high) (dec_lt first (suc high))
    where
      go : Dec (first < high) → Dec (first < suc high)
          → counted m (λ j. ltb (first * base + last j) bound) + cond (ltb first high) 1 0 * lower
          ≡ cond (ltb first high) 1 0 * m + cond (ltb first (suc high)) 1 0 * lower
      go (yes a) _ =
          let all : counted m (λ j. ltb (first * base + last j) bound) ≡ m =
          counted_all m (λ j h. lt-ltb (first * base + last j) bound (omega (arith, digit j h, multiple first high a))) in
          rw (lt-ltb first high a, lt-ltb first (suc high) (omega arith), all) (omega arith)
      go (no a) (yes b) =
          let e : first ≡ high = omega arith in
          let same : counted m (λ j. ltb (high * base + last j) bound) ≡ lower = counted_same m (λ j h. shifted (last j)) in
          rw (e, le-ltb high high (omega arith), lt-ltb high (suc high) (omega arith), same) (omega arith)
      go (no a) (no b) =
          let none : counted m (λ j. ltb (first * base + last j) bound) ≡ 0 =
          counted_none m (λ j h. le-ltb (first * base + last j) bound (omega (arith, multiple high first (omega arith)))) in
          rw (le-ltb first high (omega arith), le-ltb first (suc high) (omega arith), none) (omega arith)

  -- with n high digits: number p has the high digit of p / m and the last digit of p % m
  pub counted_digits : (n : ℕ) (first : ℕ → ℕ)
      → counted (n * m) (λ p. ltb (first (p / m) * base + last (p % m)) (high * base + low))
      + counted n (λ i. ltb (first i) high) * counted m (λ j. ltb (last j) low)
      ≡ counted n (λ i. ltb (first i) high) * m + counted n (λ i. ltb (first i) (suc high)) * counted m (λ j. ltb (last j) low)
  counted_digits n first =
      ap₂ ◌+◌ (sym (sum_flat naturals n m _) ∙ sum_cong naturals n _ _ (λ i below. counted_same m (λ j h. number i j h))) (sym (sum_mul_right n lower _))
      ∙ sym (sum_add naturals n _ _)
      ∙ sum_cong naturals n _ _ (λ i below. one_high (first i))
      ∙ sum_add naturals n _ _
      ∙ ap₂ ◌+◌ (sum_mul_right n m _) (sum_mul_right n lower _)
    where
      number : (i j : ℕ) → j < m
          → ltb (first ((i * m + j) / m) * base + last ((i * m + j) % m)) bound ≡ ltb (first i * base + last j) bound
      number i j h = rw (digits_div i h, digits_mod i h)
