-- Laws of tests: both of two, one that cannot pass, and `every`: one number more, what it says of one of them, that it holds where all pass, equal
-- tests, and summands that are all 0.
use Rattle.std.specs.Prelude.{◌≡◌, refl, Bool, true, false, ◌&&◌, ℕ, zero, suc, ◌+◌, ◌<◌, T, eqb}
use Rattle.std.proofs.Common.{sym, ap, ap₂, ◌∙◌, subst, zero-add, add-one, arith, ne_eqb}
use Rattle.std.proofs.Math.Decide.{ℕ_discrete}
use Rattle.algebra.specs.Every.{every}
use Rattle.algebra.specs.Sum.{sum}

-- both of two tests
pub both_true : (a b : Bool) → a && b ≡ true → (a ≡ true) × (b ≡ true)
both_true true b e = (refl, e)
both_true false b e = absurd (subst T (sym e) tt)

-- a test that cannot pass
pub test_fails : (t : Bool) → (t ≡ true → ⊥) → t ≡ false
test_fails true h = absurd (h refl)
test_fails false h = refl

-- one number more
pub every_next : (test : ℕ → Bool) (n : ℕ) → every n test && test n ≡ every (n + 1) test
every_next test n = rw add-one

pub every_at : (n : ℕ) (test : ℕ → Bool) → every n test ≡ true → (i : ℕ) → i < n → test i ≡ true
every_at zero test e i l = absurd (omega arith)
every_at (suc n) test e i l = go (ℕ_discrete i n) (every_at n test both.0 i)
  where
    both : (every n test ≡ true) × (test n ≡ true)
    both = both_true (every n test) (test n) e

    go : Dec (i ≡ n) → (i < n → test i ≡ true) → test i ≡ true
    go (yes same) before = ap test same ∙ both.1
    go (no other) before = before (omega arith)

pub every_from : (n : ℕ) (test : ℕ → Bool) → ((i : ℕ) → i < n → test i ≡ true) → every n test ≡ true
every_from zero test h = refl
every_from (suc n) test h = rw (every_from n test (λ i l. h i (omega arith)), h n (omega arith))

pub every_cong : (n : ℕ) (f g : ℕ → Bool) → ((i : ℕ) → i < n → f i ≡ g i) → every n f ≡ every n g
every_cong zero f g h = refl
every_cong (suc n) f g h = ap₂ ◌&&◌ (every_cong n f g (λ i l. h i (omega arith))) (h n (omega arith))

-- every summand is 0 exactly where the sum is
pub every_zero : (n : ℕ) (f : ℕ → ℕ) → every n (λ i. eqb (f i) 0) ≡ eqb (sum n f) 0
unfolding sum
every_zero zero f = refl
every_zero (suc n) f = ap (λ (test : Bool). test && eqb (f n) 0) (every_zero n f) ∙ both_zero (sum n f) (f n)
  where
    both_zero : (a b : ℕ) → eqb a 0 && eqb b 0 ≡ eqb (a + b) 0
    both_zero zero b = rw zero-add
    both_zero (suc a) b = rw (ne_eqb (suc a) 0 (λ e. omega arith), ne_eqb (suc a + b) 0 (λ e. omega arith))
