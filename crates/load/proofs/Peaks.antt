-- One pass over a list for `within_peak`: the sizes of the least and of the greatest of 0 and the values passed decide for those values.
-- It rests on the definition of `within_peak` alone.
use mathlib.Core.Path.{◌≡◌, refl, sym, ap, ◌∙◌}
use mathlib.Core.Bool.{Bool, true, false, ◌&&◌, cond, and_assoc, and-true}
use mathlib.Core.List.{List}
use Prim.Native.Nat.{ℕ, zero, suc, ◌+◌, ◌<◌, ◌≤◌, max}
use native.Mathlib.Numerals.{add-one}
use native.Mathlib.Omega.{arith}
use borrow.Author.Tests.{ltb-true, ltb-false, leb-true, leb-false, le-ltb, le-leb, lt-leb}
use lib.Dec.{T, leb, ltb}
use lib.IntN.{ℤ, pos, negsuc, neg_ℤ, nat_abs}
use lib.ListN.{length, get_or, drop, drop_of_length-le}
use lib.Seq.{drop-cons}
use lib.Signed.{non_neg}
use Rattle.std.specs.Int.{int_min, int_max}
use Rattle.load.specs.Load.{within_peak}

-- the sizes of both are within the peak
abbrev pub both_within : (peak : ℕ) (low high : ℤ) → Bool
both_within peak low high = leb (nat_abs low) peak && leb (nat_abs high) peak

-- ---- one value more

-- how far a value lies below 0, and above it
abbrev under : ℤ → ℕ
under (pos n) = 0
under (negsuc n) = suc n

abbrev over : ℤ → ℕ
over (pos n) = n
over (negsuc n) = 0

under_over : (v : ℤ) → nat_abs v ≡ max (under v) (over v)
under_over (pos n) = omega arith
under_over (negsuc n) = omega arith

-- the test picks the greater number
picked : (f : ℕ → ℤ) (a b : ℕ) → cond (ltb a b) (f b) (f a) ≡ f (max a b)
picked f a b = go (ltb a b) refl
  where
    go : (t : Bool) → ltb a b ≡ t → cond t (f b) (f a) ≡ f (max a b)
    go true e = let l : a < b = ltb-true a b e in ap f (omega arith)
    go false e = let l : b ≤ a = ltb-false a b e in ap f (omega arith)

-- a least value is not above 0 and stays so, and its size goes up to how far v lies below 0
lowered : (low v : ℤ) → T (non_neg (neg_ℤ low)) → T (non_neg (neg_ℤ (int_min low v))) × (nat_abs (int_min low v) ≡ max (nat_abs low) (under v))
lowered (pos zero) (pos n) h = let e : ltb n 0 ≡ false = le-ltb n 0 (omega arith) in rw e (tt, omega arith)
lowered (pos zero) (negsuc n) h = (tt, omega arith)
lowered (pos (suc a)) v h = absurd h
lowered (negsuc a) (pos n) h = (tt, omega arith)
lowered (negsuc a) (negsuc n) h = rw (picked negsuc a n) (tt, omega arith)

-- a greatest value is not below 0 and stays so, and its size goes up to how far v lies above 0
raised : (high v : ℤ) → T (non_neg high) → T (non_neg (int_max high v)) × (nat_abs (int_max high v) ≡ max (nat_abs high) (over v))
raised (pos a) (pos n) h = rw (picked pos n a) (tt, omega arith)
raised (pos a) (negsuc n) h = (tt, omega arith)
raised (negsuc a) v h = absurd h

-- two sizes are within the peak when the greater one is
leb_max : (a b peak : ℕ) → leb a peak && leb b peak ≡ leb (max a b) peak
leb_max a b peak = go (leb a peak) refl (leb b peak) refl
  where
    go : (s : Bool) → leb a peak ≡ s → (t : Bool) → leb b peak ≡ t → s && t ≡ leb (max a b) peak
    go true p true q = sym (le-leb (max a b) peak (omega (arith, leb-true a peak p, leb-true b peak q)))
    go true p false q = sym (lt-leb (max a b) peak (omega (arith, leb-false b peak q)))
    go false p t q = sym (lt-leb (max a b) peak (omega (arith, leb-false a peak p)))

-- the size of v is within the peak when the sizes of the new least and greatest values are
one_more : (peak : ℕ) (low high v : ℤ) → T (non_neg (neg_ℤ low)) → T (non_neg high)
    → both_within peak low high && leb (nat_abs v) peak ≡ both_within peak (int_min low v) (int_max high v)
one_more peak low high v l h =
    let size : max (max (nat_abs low) (nat_abs high)) (nat_abs v) ≡ max (nat_abs (int_min low v)) (nat_abs (int_max high v))
    = omega (arith, (lowered low v l).1, (raised high v h).1, under_over v) in
    simp leb_max (ap (λ (n : ℕ). leb n peak) size)

-- ---- the pass

-- the first i values are passed: low is not above 0, high not below it, and their sizes and the values left decide
pub record Passed (peak : ℕ) (values : List ℤ) (low high : ℤ) (i : ℕ) : Type 0 where
  pub place : i ≤ length values
  pub below : T (non_neg (neg_ℤ low))
  pub above : T (non_neg high)
  pub decides : within_peak peak values ≡ both_within peak low high && within_peak peak (drop i values)

module _ {peak : ℕ} {values : List ℤ} where
  pub pass_none : Passed peak values (pos 0) (pos 0) 0
  pass_none = record {
    place = omega arith;
    below = tt;
    above = tt;
    decides = sym (ap (λ (t : Bool). (t && t) && within_peak peak values) (le-leb 0 peak (omega arith)));
  }

  pub pass_next : {low high low' high' : ℤ} (i : ℕ) → i < length values → Passed peak values low high i
      → low' ≡ int_min low (get_or values i (pos 0)) → high' ≡ int_max high (get_or values i (pos 0)) → Passed peak values low' high' (i + 1)
  unfolding within_peak
  pass_next {low} {high} i l w p q =
      rw (p, q) record {
        place = omega arith;
        below = (lowered low v w.below).0;
        above = (raised high v w.above).0;
        decides =
            w.decides ∙ ap (λ t. both_within peak low high && t) next ∙ sym (and_assoc (both_within peak low high) _ _)
            ∙ ap (λ t. t && within_peak peak (drop (i + 1) values)) (one_more peak low high v w.below w.above);
      }
    where
      v : ℤ
      v = get_or values i (pos 0)

      next : within_peak peak (drop i values) ≡ leb (nat_abs v) peak && within_peak peak (drop (i + 1) values)
      next = rw (add-one, drop-cons values i (pos 0))

  pub pass_all : {low high : ℤ} {i : ℕ} → length values ≤ i → Passed peak values low high i → within_peak peak values ≡ both_within peak low high
  unfolding within_peak
  pass_all {low} {high} l w =
      w.decides ∙ ap (λ vs. both_within peak low high && within_peak peak vs) (drop_of_length-le values l) ∙ and-true (both_within peak low high)
