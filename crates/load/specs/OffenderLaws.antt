-- What the definition of the first value beyond the peak says (`offends`), and that the place which holds it is the one told (`offender_at_lem`). It rests
-- on the laws of planes.
use Rattle.std.specs.Prelude.{◌≡◌, Bool, cond, ◌⊎◌, ℤ, pos, negsuc, nat_abs, length, get_or, Some}
use Rattle.std.proofs.Math.Path.{refl}
use Rattle.std.proofs.Math.Bool.{true, false}
use Rattle.std.proofs.Common.{true≢false, inl, inr, ⊎_elim, div-lt_iff_lt-mul, div-add-mod', arith}
use mathlib.Core.List.{List, [], ◌∷◌}
use Prim.Native.Nat.{ℕ, zero, suc, ◌+◌, ◌*◌, ◌/◌, ◌%◌, ◌≤◌, ◌<◌}
use Rattle.std.proofs.Math.Nat.{mod-lt, mul-le-mul}
use Rattle.std.proofs.Math.Numerals.{add-one}
use borrow.Author.Tests.{leb-true, leb-false, le-leb, lt-leb, le-ltb}
use Rattle.std.proofs.Math.Dec.{leb}
use Rattle.std.specs.Int.Signed.{lt_z}
use Rattle.algebra.specs.PlanesLaws.{stacked_at_lem}
use Rattle.layer.specs.declared.shape.Layer.{Layer}
use Rattle.layer.specs.Shape.{map_count}
use Rattle.load.specs.declared.offender.Side.{Side}
use Rattle.load.specs.declared.offender.Side.TheVariants.{Above, Below}
use Rattle.load.specs.Load.{within_peak}
use Rattle.load.specs.Offender.{side_of, side_number, first_beyond, no_offender, offender_at, offender_of, stored, Offends}

-- ---- the side of a value

-- a side has a number above that of no side
pub side_above : (side : Side) → 0 < side_number (Some side)
side_above Above = omega arith
side_above Below = omega arith

module _ (peak : ℕ) where
  -- a value beyond the peak has the side of its sign: 2 below 0, else 1
  pub side_sign : (v : ℤ) → peak < nat_abs v → side_of peak v ≡ cond (lt_z v (pos 0)) 2 1
  side_sign (pos n) h = rw (lt-leb n peak h, le-ltb n 0 (omega arith))
  side_sign (negsuc n) h = rw (lt-leb (suc n) peak h)

  pub side_either : (v : ℤ) → peak < nat_abs v → (side_of peak v ≡ 1) ⊎ (side_of peak v ≡ 2)
  side_either (pos n) h = inl (rw (lt-leb n peak h))
  side_either (negsuc n) h = inr (rw (lt-leb (suc n) peak h))

  -- it is 0 exactly where the size is within the peak
  pub side_none : (v : ℤ) → nat_abs v ≤ peak → side_of peak v ≡ 0
  side_none (pos n) h = rw (le-leb n peak h)
  side_none (negsuc n) h = rw (le-leb (suc n) peak h)

  pub side_within : (v : ℤ) → side_of peak v ≡ 0 → nat_abs v ≤ peak
  side_within v e = by_test (leb (nat_abs v) peak) refl
    where
      by_test : (t : Bool) → leb (nat_abs v) peak ≡ t → nat_abs v ≤ peak
      by_test true l = leb-true (nat_abs v) peak l
      by_test false l = ⊎_elim (λ s. absurd (omega (arith, e, s))) (λ s. absurd (omega (arith, e, s))) (side_either v (leb-false (nat_abs v) peak l))

-- ---- the first value of a list that is beyond the peak

-- place p of the list holds one, and no place before it does
pub record First (peak : ℕ) (values : List ℤ) (p : ℕ) : Type 0 where
  pub here : p < length values
  pub beyond : peak < nat_abs (get_or values p (pos 0))
  pub before : (q : ℕ) → q < p → nat_abs (get_or values q (pos 0)) ≤ peak

module _ (peak : ℕ) where
  -- behind a value that is within the peak the first one stands a place further on
  passed : (value : ℤ) (values : List ℤ) (p : ℕ) → nat_abs value ≤ peak → First peak values p → First peak (value ∷ values) (suc p)
  passed value values p within first = record { here = omega (arith, first.here); beyond = first.beyond; before = before }
    where
      before : (q : ℕ) → q < suc p → nat_abs (get_or (value ∷ values) q (pos 0)) ≤ peak
      before zero h = within
      before (suc q) h = first.before q (omega arith)

  left : (value : ℤ) (values : List ℤ) (p : ℕ) → First peak (value ∷ values) (suc p) → First peak values p
  left value values p first = record {
    here = omega (arith, first.here);
    beyond = first.beyond;
    before = λ q h. first.before (suc q) (omega arith);
  }

  pub first_beyond_lem : (values : List ℤ) → within_peak peak values ≡ false → First peak values (first_beyond peak values)
  unfolding within_peak first_beyond
  first_beyond_lem [] e = absurd (true≢false e)
  first_beyond_lem (value ∷ values) e = by_test (leb (nat_abs value) peak) refl (first_beyond_lem values)
    where
      by_test : (t : Bool) → leb (nat_abs value) peak ≡ t → (within_peak peak values ≡ false → First peak values (first_beyond peak values))
          → First peak (value ∷ values) (cond t (first_beyond peak values + 1) 0)
      by_test true l later = rw add-one (passed value values _ (leb-true (nat_abs value) peak l) (later (rw l at e)))
      by_test false l later = record { here = omega arith; beyond = leb-false (nat_abs value) peak l; before = λ q h. absurd (omega arith) }

  -- there is no other
  pub first_is : (values : List ℤ) (p : ℕ) → First peak values p → (within_peak peak values ≡ false) × (first_beyond peak values ≡ p)
  unfolding within_peak first_beyond
  first_is [] p first = absurd (omega (arith, first.here))
  first_is (value ∷ values) zero first = let e = lt-leb (nat_abs value) peak first.beyond in (rw e, rw e)
  first_is (value ∷ values) (suc p) first =
      let (fails, place) = first_is values p (left value values p first) in
      let e = le-leb (nat_abs value) peak (first.before 0 (omega arith)) in
      (rw e fails, rw (e, place, add-one))

  -- a list has none where no value is beyond
  pub none_beyond : (values : List ℤ) → ((q : ℕ) → q < length values → nat_abs (get_or values q (pos 0)) ≤ peak) → within_peak peak values ≡ true
  unfolding within_peak
  none_beyond [] within = refl
  none_beyond (value ∷ values) within =
      rw (le-leb (nat_abs value) peak (within 0 (omega arith))) (none_beyond values (λ q h. within (suc q) (omega arith)))

-- ---- the first value of a map that is beyond the peak

-- every flat place is that of a channel, row and column
pub stored_place : (l : Layer) (p : ℕ)
    → stored l (p / (l.height * l.width)) (p % (l.height * l.width) / l.width) (p % (l.height * l.width) % l.width) ≡ p
stored_place l p = omega (arith, div-add-mod' p (l.height * l.width), div-add-mod' (p % (l.height * l.width)) l.width)

module _ (l : Layer) (map : List ℤ) where
  -- zeros where no value is beyond the peak
  pub offender_none : within_peak l.peak map ≡ true → offender_of l map ≡ no_offender
  unfolding offender_of
  offender_none e = rw e

  -- the place that holds the first value beyond the peak is the offender's
  pub offender_at_lem : (channel row column : ℕ) → row < l.height → column < l.width → First l.peak map (stored l channel row column)
      → offender_of l map ≡ offender_at l map channel row column
  unfolding offender_of
  offender_at_lem channel row column below beside first =
      rw ((first_is l.peak map _ first).0, (first_is l.peak map _ first).1)
      (stacked_at_lem l.height l.width (offender_at l map) channel row column below beside)

  pub offends : length map ≡ map_count l → 0 < l.height → 0 < l.width → within_peak l.peak map ≡ false → Offends l map (offender_of l map)
  unfolding offender_of
  offends e high wide beyond =
      let first = first_beyond_lem l.peak map beyond in
      let p = first_beyond l.peak map in
      let area : 0 < l.height * l.width = mul-le-mul {n₁ = 1} {m₁ = 1} high wide in
      let place = stored_place l p in
      rw beyond record {
        channel_in = (div-lt_iff_lt-mul area).1 (omega (arith, first.here));
        row_in = (div-lt_iff_lt-mul wide).1 (mod-lt p area);
        column_in = mod-lt (p % (l.height * l.width)) wide;
        beyond = rw place first.beyond;
        side_is = refl;
        before = λ channel row column h. first.before (stored l channel row column) (rw place at h);
      }

  -- its side is 1 or 2 where some value is beyond the peak
  pub offender_side : within_peak l.peak map ≡ false → ((offender_of l map).side ≡ 1) ⊎ ((offender_of l map).side ≡ 2)
  unfolding offender_of
  offender_side beyond =
      rw (beyond, stored_place l (first_beyond l.peak map))
      (side_either l.peak (get_or map (first_beyond l.peak map) (pos 0)) (first_beyond_lem l.peak map beyond).beyond)
