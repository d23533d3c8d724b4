-- Laws of the greatest of n numbers, and of the first place where it stands. `max` is an addition whose sums are the greatest numbers, so that the
-- laws of sums hold of it too. They rest on the definitions, on the laws of sums and on those of the first number that passes a test.
use Rattle.std.specs.Prelude.{◌≡◌, refl, Bool, eqb}
use Rattle.std.proofs.Math.Path.{sym}
use Rattle.std.proofs.Common.{ap, ◌∙◌, arith}
use Prim.Native.Nat.{ℕ, zero, suc, ◌+◌, ◌<◌, ◌≤◌, max}
use Rattle.std.proofs.Math.Nat.{zero-max, max_comm}
use Rattle.std.proofs.Math.Decide.{ℕ_discrete, dec_lt}
use Rattle.std.proofs.Math.Numerals.{add-one}
use borrow.Author.Tests.{eqb-true, eqb-false, eq-eqb, ne_eqb}
use Rattle.algebra.specs.Greatest.{greatest, first_greatest}
use Rattle.algebra.specs.First.{first_where}
use Rattle.algebra.specs.FirstLaws.{first_is, first_before, first_passes, first_most}
use Rattle.algebra.specs.SumLaws.{Addition}

pub greatest_none : (f : ℕ → ℕ) → greatest 0 f ≡ 0
unfolding greatest
greatest_none f = refl

pub greatest_last : (n : ℕ) (f : ℕ → ℕ) → greatest (suc n) f ≡ max (greatest n f) (f n)
unfolding greatest
greatest_last n f = refl

abbrev pub maxima : Addition ℕ
maxima = record {
  none = 0;
  plus = max;
  total = greatest;
  plus_none = zero-max;
  plus_assoc = λ x y z. omega arith;
  plus_comm = max_comm;
  total_none = greatest_none;
  total_last = greatest_last;
}

pub greatest_next : (n : ℕ) (f : ℕ → ℕ) → greatest (n + 1) f ≡ max (greatest n f) (f n)
greatest_next n f = rw add-one (greatest_last n f)

-- of one number it is that number
pub greatest_one : (f : ℕ → ℕ) → greatest 1 f ≡ f 0
unfolding greatest
greatest_one f = zero-max (f 0)

-- none of them is greater
pub greatest_at : (n : ℕ) (f : ℕ → ℕ) (i : ℕ) → i < n → f i ≤ greatest n f
greatest_at zero f i l = absurd (omega arith)
greatest_at (suc n) f i l = go (ℕ_discrete i n) (greatest_at n f i)
  where
    go : Dec (i ≡ n) → (i < n → f i ≤ greatest n f) → f i ≤ greatest (suc n) f
    go (yes e) before = omega (arith, greatest_last n f, ap f e)
    go (no other) before = omega (arith, greatest_last n f, before (omega arith))

-- it is at most a bound of all of them
pub greatest_most : (n : ℕ) (f : ℕ → ℕ) (most : ℕ) → ((i : ℕ) → i < n → f i ≤ most) → greatest n f ≤ most
greatest_most zero f most h = omega (arith, greatest_none f)
greatest_most (suc n) f most h = omega (arith, greatest_last n f, greatest_most n f most (λ i l. h i (omega arith)), h n (omega arith))

-- ---- the first place where it stands

module _ (f : ℕ → ℕ) where
  abbrev stands : (n i : ℕ) → Bool
  stands n i = eqb (f i) (greatest n f)

  -- it is told by what it holds: the greatest number, and less at every place before
  first_greatest_is : (n k : ℕ) → k < n → f k ≡ greatest n f → ((i : ℕ) → i < k → f i < greatest n f) → first_greatest n f ≡ k
  unfolding first_greatest
  first_greatest_is n k l e less =
      first_is n (stands n) k l (eq-eqb _ _ e) (λ i h. ne_eqb (f i) (greatest n f) (λ same. omega (arith, less i h)))

  -- it holds the greatest number where it is one of n places
  holds : (n : ℕ) → first_greatest n f < n → f (first_greatest n f) ≡ greatest n f
  unfolding first_greatest
  holds n below = eqb-true _ _ (first_passes n (stands n) below)

  -- at every place before it there is less
  pub first_greatest_before : (n i : ℕ) → i < first_greatest n f → f i < greatest n f
  unfolding first_greatest
  first_greatest_before n i l =
      let other = eqb-false (f i) (greatest n f) (first_before n (stands n) i l) in
      omega (arith, greatest_at n f i (omega (arith, first_most n (stands n))), other)

  -- one number more, greater than all before: the first place is its own
  pub first_greatest_next : (n : ℕ) → greatest n f < f n → (greatest (n + 1) f ≡ f n) × (first_greatest (n + 1) f ≡ n)
  first_greatest_next n above =
      let is : greatest (n + 1) f ≡ f n = omega (arith, greatest_next n f) in
      (is, first_greatest_is (n + 1) n (omega arith) (sym is) (λ i l. omega (arith, is, greatest_at n f i l)))

  -- one number more, not greater: nothing changes
  stays : (n : ℕ) → (0 < n → first_greatest n f < n) → f n ≤ greatest n f
      → (greatest (n + 1) f ≡ greatest n f) × (first_greatest (n + 1) f ≡ first_greatest n f)
  unfolding first_greatest first_where
  stays zero below within =
      let is : greatest 1 f ≡ f 0 = greatest_one f in
      (omega (arith, greatest_none f), first_greatest_is 1 0 (omega arith) (sym is) (λ i l. absurd (omega arith)))
  stays (suc n) below within =
      let is : greatest (suc n + 1) f ≡ greatest (suc n) f = omega (arith, greatest_next (suc n) f) in
      let here = below (omega arith) in (
        is,
        first_greatest_is (suc n + 1) (first_greatest (suc n) f) (omega arith) (holds (suc n) here ∙ sym is)
            (λ i l. omega (arith, is, first_greatest_before (suc n) i l)),
      )

  -- where there are numbers, it is one of their places
  pub first_greatest_below : (n : ℕ) → 0 < n → first_greatest n f < n
  unfolding first_greatest
  first_greatest_below zero some = absurd (omega arith)
  first_greatest_below (suc n) some = go (dec_lt (greatest n f) (f n)) (first_greatest_below n)
    where
      go : Dec (greatest n f < f n) → (0 < n → first_greatest n f < n) → first_greatest (suc n) f < suc n
      go (yes above) before = rw (rw add-one at (first_greatest_next n above).1) (omega arith)
      go (no within) before = rw (rw add-one at (stays n before (omega arith)).1) (omega (arith, first_most n (stands n)))

  pub first_greatest_stays : (n : ℕ) → f n ≤ greatest n f → (greatest (n + 1) f ≡ greatest n f) × (first_greatest (n + 1) f ≡ first_greatest n f)
  first_greatest_stays n within = stays n (first_greatest_below n) within

  pub first_greatest_at : (n : ℕ) → 0 < n → f (first_greatest n f) ≡ greatest n f
  first_greatest_at n some = holds n (first_greatest_below n some)
