-- Numbers in base ten: the last digit and those before it, and how many digits there are. The digits of n do not depend on the count
-- that `digits_of` is given, once it is above n.
use Rattle.std.specs.Prelude.{◌≡◌, refl, Bool, true, false, cond, List, [], ◌∷◌, ◌++◌, ℕ, zero, suc, ◌+◌, ◌/◌, ◌%◌, ◌^◌, ◌≤◌, ◌<◌, ltb, length}
use Rattle.std.proofs.Common.{pow-suc, arith, ltb-true, ltb-false, lt-ltb, le-ltb, length-append}
use Rattle.lines.specs.Lines.{digits_of, decimal}

-- the digits before the last
unfoldable pub leading : ℕ → List ℕ
leading n = cond (ltb n 10) [] (decimal (n / 10))

pub leading_none : (n : ℕ) → n < 10 → leading n ≡ []
unfolding leading
leading_none n l = rw (lt-ltb n 10 l)

pub leading_tenth : (n : ℕ) → 10 ≤ n → leading n ≡ decimal (n / 10)
unfolding leading
leading_tenth n l = rw (le-ltb n 10 l)

-- two lists of digits, where those of the tenth are the same
digits_step : (count count' n : ℕ) → (10 ≤ n → digits_of count (n / 10) ≡ digits_of count' (n / 10))
    → digits_of (suc count) n ≡ digits_of (suc count') n
digits_step count count' n h = go (ltb n 10) refl where
  go : (t : Bool) → ltb n 10 ≡ t → digits_of (suc count) n ≡ digits_of (suc count') n
  go true e = rw e
  go false e = rw (e, h (ltb-false n 10 e))

digits_same : (count count' n : ℕ) → n < count → n < count' → digits_of count n ≡ digits_of count' n
digits_same zero count' n l l' = absurd (omega arith)
digits_same (suc count) zero n l l' = absurd (omega arith)
digits_same (suc count) (suc count') n l l' = digits_step count count' n (λ more. digits_same count count' (n / 10) (omega arith) (omega arith))

pub decimal_last : (n : ℕ) → decimal n ≡ leading n ++ ((48 + n % 10) ∷ [])
unfolding decimal
decimal_last n = go (ltb n 10) refl where
  go : (t : Bool) → ltb n 10 ≡ t → digits_of (suc n) n ≡ leading n ++ ((48 + n % 10) ∷ [])
  go true e =
      let few = ltb-true n 10 e in
      let same : n % 10 ≡ n = omega arith in
      rw (e, leading_none n few, same)
  go false e =
      let more = ltb-false n 10 e in
      rw (e, leading_tenth n more, digits_same n (suc (n / 10)) (n / 10) (omega arith) (omega arith))

-- the digits of n are at most one more than those of the tenth
digits_less : (count n k : ℕ) → (10 ≤ n → length (digits_of count (n / 10)) ≤ k) → length (digits_of (suc count) n) ≤ suc k
digits_less count n k h = go (ltb n 10) refl where
  go : (t : Bool) → ltb n 10 ≡ t → length (digits_of (suc count) n) ≤ suc k
  go true e = rw e (omega arith)
  go false e = rw e (omega (arith, length-append (digits_of count (n / 10)) ((48 + n % 10) ∷ []), h (ltb-false n 10 e)))

digits_few : (count n k : ℕ) → 0 < k → n < 10 ^ k → length (digits_of count n) ≤ k
digits_few zero n k some l = omega arith
digits_few (suc count) n zero some l = absurd (omega arith)
digits_few (suc count) n (suc zero) some l = digits_less count n zero (λ more. absurd (omega arith))
digits_few (suc count) n (suc (suc k)) some l =
    digits_less count n (suc k) (λ more. digits_few count (n / 10) (suc k) (omega arith) (omega (arith, pow-suc 10 (suc k))))

pub decimal_few : (n k : ℕ) → 0 < k → n < 10 ^ k → length (decimal n) ≤ k
unfolding decimal
decimal_few n k = digits_few (suc n) n k
