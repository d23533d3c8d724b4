-- Laws of the first number below n that passes a test: it passes, none before it does, and these two facts tell it; and of the first of A rows of B
-- places whose row and whose column pass. They rest on the definition and on a law of two tests.
use Rattle.std.specs.Prelude.{◌≡◌, refl, Bool, true, false, ◌&&◌, cond, ℕ, zero, suc, ◌+◌, ◌*◌, ◌/◌, ◌%◌, ◌<◌, ◌≤◌, ltb}
use Rattle.std.proofs.Common.{sym, ap, ◌∙◌, true≢false, div-add-mod', div-lt_iff_lt-mul, mod-lt, mul-le-mul_right, arith, lt-ltb, le-ltb}
use Rattle.std.proofs.Math.Decide.{ℕ_discrete, dec_lt}
use Rattle.std.proofs.Math.Arith.{digits_lt, digits_div, digits_mod}
use Rattle.algebra.specs.EveryLaws.{both_true}
use Rattle.algebra.specs.First.{first_where}

-- ---- a test

-- none before it passes
pub first_before : (n : ℕ) (test : ℕ → Bool) (i : ℕ) → i < first_where n test → test i ≡ false
unfolding first_where
first_before zero test i l = absurd (omega arith)
first_before (suc n) test i l = go (test 0) refl i l (first_before n (λ j. test (suc j)))
  where
    go : (t : Bool) → test 0 ≡ t → (i : ℕ) → i < cond t 0 (suc (first_where n (λ j. test (suc j))))
        → ((j : ℕ) → j < first_where n (λ j. test (suc j)) → test (suc j) ≡ false) → test i ≡ false
    go true e i l before = absurd (omega arith)
    go false e zero l before = e
    go false e (suc i) l before = before i (omega arith)

-- these facts tell it: it passes, and none before it does
pub first_is : (n : ℕ) (test : ℕ → Bool) (k : ℕ) → k < n → test k ≡ true → ((i : ℕ) → i < k → test i ≡ false) → first_where n test ≡ k
unfolding first_where
first_is zero test k l e before = absurd (omega arith)
first_is (suc n) test zero l e before = rw e
first_is (suc n) test (suc k) l e before =
    rw (before 0 (omega arith)) (ap suc (first_is n (λ i. test (suc i)) k (omega arith) e (λ i h. before (suc i) (omega arith))))

pub first_none : (n : ℕ) (test : ℕ → Bool) → ((i : ℕ) → i < n → test i ≡ false) → first_where n test ≡ n
unfolding first_where
first_none zero test none = refl
first_none (suc n) test none = rw (none 0 (omega arith)) (ap suc (first_none n (λ i. test (suc i)) (λ i l. none (suc i) (omega arith))))

pub first_most : (n : ℕ) (test : ℕ → Bool) → first_where n test ≤ n
unfolding first_where
first_most zero test = omega arith
first_most (suc n) test = go (test 0) (first_most n (λ i. test (suc i)))
  where
    go : (t : Bool) {rest : ℕ} → rest ≤ n → cond t 0 (suc rest) ≤ suc n
    go true l = omega arith
    go false l = omega arith

-- it passes, if it is one of them
pub first_passes : (n : ℕ) (test : ℕ → Bool) → first_where n test < n → test (first_where n test) ≡ true
unfolding first_where
first_passes zero test l = absurd (omega arith)
first_passes (suc n) test l = go (test 0) refl l (first_passes n (λ i. test (suc i)))
  where
    rest : ℕ
    rest = first_where n (λ i. test (suc i))

    go : (t : Bool) → test 0 ≡ t → cond t 0 (suc rest) < suc n → (rest < n → test (suc rest) ≡ true) → test (cond t 0 (suc rest)) ≡ true
    go true e l later = e
    go false e l later = later (omega arith)

-- one that passes is not before it
pub first_least : (n : ℕ) (test : ℕ → Bool) (i : ℕ) → test i ≡ true → first_where n test ≤ i
first_least n test i e = go (dec_lt i (first_where n test))
  where
    go : Dec (i < first_where n test) → first_where n test ≤ i
    go (yes l) = absurd (true≢false (sym e ∙ first_before n test i l))
    go (no h) = omega arith

-- ---- two tests, of the row and of the column of a place among A rows of B

module _ (A B : ℕ) (row column : ℕ → Bool) where
  abbrev both_pass : ℕ → Bool
  both_pass p = row (p / B) && column (p % B)

  -- where some row and some column pass, it stands in the first such row and the first such column
  pub first_both : first_where A row < A → first_where B column < B
      → first_where (A * B) both_pass ≡ first_where A row * B + first_where B column
  first_both some more = first_is (A * B) both_pass (i * B + j) (digits_lt some more)
      (rw (digits_div i more, digits_mod i more, first_passes A row some) (first_passes B column more))
      (λ p l. earlier p l (row (p / B)) refl (column (p % B)) refl)
    where
      i : ℕ
      i = first_where A row

      j : ℕ
      j = first_where B column

      earlier : (p : ℕ) → p < i * B + j → (s : Bool) → row (p / B) ≡ s → (t : Bool) → column (p % B) ≡ t → both_pass p ≡ false
      earlier p l false e t f = rw e
      earlier p l true e false f = rw (e, f)
      earlier p l true e true f =
          let rows : i * B ≤ p / B * B = mul-le-mul_right B (first_least A row (p / B) e) in
          let columns : j ≤ p % B = first_least B column (p % B) f in
          absurd (omega (arith, div-add-mod' p B))

  -- where it is one of the places, some row and some column pass
  pub found_each : first_where (A * B) both_pass < A * B → (first_where A row < A) × (first_where B column < B)
  found_each l =
      let p = first_where (A * B) both_pass in
      let (e, f) = both_true (row (p / B)) (column (p % B)) (first_passes (A * B) both_pass l) in
      let some : 0 < B = wide (ℕ_discrete B 0) in
      let in_row : p / B < A = (div-lt_iff_lt-mul some).1 l in
      let in_column : p % B < B = mod-lt p some in
      (omega (arith, first_least A row (p / B) e), omega (arith, first_least B column (p % B) f))
    where
      wide : Dec (B ≡ 0) → 0 < B
      wide (yes e) = let none : A * B ≡ 0 = rw e (omega arith) in absurd (omega arith)
      wide (no d) = omega arith

  -- as tests
  pub found_both : ltb (first_where A row) A && ltb (first_where B column) B ≡ ltb (first_where (A * B) both_pass) (A * B)
  found_both = go (dec_lt (first_where A row) A) (dec_lt (first_where B column) B)
    where
      none : (first_where (A * B) both_pass < A * B → ⊥) → ltb (first_where (A * B) both_pass) (A * B) ≡ false
      none h = le-ltb (first_where (A * B) both_pass) (A * B) (omega arith)

      go : Dec (first_where A row < A) → Dec (first_where B column < B)
          → ltb (first_where A row) A && ltb (first_where B column) B ≡ ltb (first_where (A * B) both_pass) (A * B)
      go (no h) d = rw (le-ltb (first_where A row) A (omega arith)) (sym (none (λ l. h (found_each l).0)))
      go (yes l) (no h) = rw (lt-ltb _ _ l, le-ltb (first_where B column) B (omega arith)) (sym (none (λ l. h (found_each l).1)))
      go (yes l) (yes k) = rw (lt-ltb _ _ l, lt-ltb _ _ k, first_both l k) (sym (lt-ltb _ _ (digits_lt l k)))
