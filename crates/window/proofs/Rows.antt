-- A row of a window after its loads: values side by side between two cleared runs, or values apart in a cleared row.
use mathlib.Core.Path.{◌≡◌, refl, sym, ap, ◌∙◌, subst}
use mathlib.Core.Bool.{Bool, true, false}
use mathlib.Core.Logic.{◌⊎◌, inl, inr}
use mathlib.Core.List.{List}
use Prim.Native.Nat.{ℕ, zero, suc, ◌+◌, ◌*◌, ◌-◌, ◌/◌, ◌<◌, ◌≤◌, min}
use native.Mathlib.Nat.{div-add-mod', div-one, mul-one}
use native.Mathlib.Omega.{arith}
use lib.Dec.{T}
use lib.IntN.{ℤ, pos}
use lib.ListN.{length, get_or, drop, length-drop}
use lib.Seq.{length-take-le}
use borrow.Rule.Slice.PartMut.{mid_of}
use Rattle.std.proofs.lemmas.List.{get_or-take, get_or-drop}
use Rattle.algebra.specs.Places.{Written, Run}
use Rattle.layer.specs.Windows.{spread}
use Rattle.layer.specs.WindowLaws.{spread_is, spread_yes, when_yes, when_no}
use Rattle.window.specs.declared.shown.Shown.{Shown}
use Rattle.window.specs.Loaded.{Loaded}
use Rattle.window.specs.Shows.{Inside, shown_at}
use Rattle.window.proofs.Loads.{loaded_clear, loaded_as, loaded_again, loaded_runs}

module _ (n : ℕ) (s : Shown) (inside : Inside n s) (values : List ℤ) (from : ℕ) where
  -- a place that shows a value: its distance from the first, in steps
  steps : (p : ℕ) → T (spread s.spacing (0 + s.begin) s.count p)
      → (0 + s.begin ≤ p) × ((p - (0 + s.begin)) / s.spacing * s.spacing ≡ p - (0 + s.begin))
      × ((p - (0 + s.begin)) / s.spacing < s.count)
  steps p t =
      let (low, whole, high) = spread_is s.spacing (0 + s.begin) s.count p t in
      (low, omega (arith, div-add-mod' (p - (0 + s.begin)) s.spacing), high)

  pub apart-row : {m : ℕ} {xs ys zs : List ℕ} → Written 0 (Run 0 (n - 0)) (λ _. 0) xs ys
      → Loaded m (λ p. T (spread s.spacing (0 + s.begin) s.count p))
      (λ p. get_or values (from + (p - (0 + s.begin)) / s.spacing) (pos 0)) ys zs
      → Loaded m (Run 0 n) (λ p. shown_at s 0 values from p) xs zs
  apart-row a b =
      loaded_again (loaded_clear a) b (λ p l h. go p h (spread s.spacing (0 + s.begin) s.count p) refl) (λ p h. (h.0, omega arith)) row
    where
      go : (p : ℕ) → Run 0 n p → (t : Bool) → spread s.spacing (0 + s.begin) s.count p ≡ t
          → (Run 0 (n - 0) p × (T (spread s.spacing (0 + s.begin) s.count p) → ⊥) × (pos 0 ≡ shown_at s 0 values from p))
          ⊎ (T (spread s.spacing (0 + s.begin) s.count p)
          × (get_or values (from + (p - (0 + s.begin)) / s.spacing) (pos 0) ≡ shown_at s 0 values from p))
      go p h true e = inr (subst T (sym e) tt, rw e refl)
      go p h false e = inl ((h.0, omega arith), (λ t. subst T e t), rw e refl)

      row : (p : ℕ) → T (spread s.spacing (0 + s.begin) s.count p) → Run 0 n p
      row p t =
          let (low, whole, high) = steps p t in
          (omega arith, omega (arith, inside.ends ((p - (0 + s.begin)) / s.spacing) high))

  module _ (one : s.spacing ≡ 1) where
    -- values side by side end within the row
    pub close_end : s.begin + s.count ≤ n
    close_end = go s.count refl
      where
        go : (k : ℕ) → s.count ≡ k → s.begin + s.count ≤ n
        go zero e = omega (arith, inside.begins)
        go (suc k) e = omega (arith, rw (one, mul-one k) at (inside.ends k (omega arith)))

    -- and stand in one run
    run_of : (p : ℕ) → T (spread s.spacing (0 + s.begin) s.count p) → Run (0 + s.begin) s.count p
    run_of p t = let (low, whole, high) = rw (one, div-one (p - (0 + s.begin))) at (steps p t) in (low, omega arith)

    no_value : (p : ℕ) → (Run (0 + s.begin) s.count p → ⊥) → pos 0 ≡ shown_at s 0 values from p
    no_value p out = sym (when_no (spread s.spacing (0 + s.begin) s.count p) _ (λ t. out (run_of p t)))

    to_value : (p : ℕ) → Run (0 + s.begin) s.count p → T (spread s.spacing (0 + s.begin) s.count p)
    to_value p (low, high) =
        spread_yes s.spacing (0 + s.begin) s.count p (p - (0 + s.begin)) low
        (rw one (sym (mul-one (p - (0 + s.begin))))) inside.apart (omega arith)

    pub close_row : {m : ℕ} {ws xs ys zs : List ℕ} → Written 0 (Run 0 (s.begin - 0)) (λ _. 0) ws xs
        → Loaded m (λ p. T (spread s.spacing (0 + s.begin) s.count p))
        (λ p. get_or values (from + (p - (0 + s.begin)) / s.spacing) (pos 0)) xs ys
        → Written 0 (Run (s.begin + s.count) (n - (s.begin + s.count))) (λ _. 0) ys zs
        → Loaded m (Run 0 n) (λ p. shown_at s 0 values from p) ws zs
    close_row {m} {ws} {xs} {ys} {zs} a b c =
        loaded_as (loaded_runs 0 (s.begin + s.count) (n - (s.begin + s.count)) (loaded_runs 0 s.begin s.count before values_run) after)
        (λ p l h. ((h.0, omega (arith, close_end)), refl)) (λ p h. (h.0, omega (arith, close_end)))
      where
        before : Loaded m (Run 0 s.begin) (λ p. shown_at s 0 values from p) ws xs
        before = loaded_as (loaded_clear a) (λ p l h. ((h.0, omega arith), no_value p (λ r. omega (arith, r)))) (λ p h. (h.0, omega arith))

        values_run : Loaded m (Run (0 + s.begin) s.count) (λ p. shown_at s 0 values from p) xs ys
        values_run = loaded_as b (λ p l h. let there = to_value p h in (there, sym (when_yes (spread s.spacing (0 + s.begin) s.count p) _ there))) run_of

        after : Loaded m (Run (0 + (s.begin + s.count)) (n - (s.begin + s.count))) (λ p. shown_at s 0 values from p) ys zs
        after =
            loaded_as (loaded_clear c) (λ p l h. ((omega arith, omega arith), no_value p (λ r. omega (arith, r)))) (λ p h. (omega arith, omega arith))

-- the values of a map row that are shown, where they are lent. The first that is shown may lie beyond the row's end, where none is.
module _ (line : List ℤ) (first count from : ℕ) (from_is : from ≡ min first (length line))
    (inside : (i : ℕ) → i < count → first + i < length line) where
  pub lent_end : from + count ≤ length line
  lent_end = go count refl
    where
      go : (k : ℕ) → count ≡ k → from + count ≤ length line
      go zero e = omega arith
      go (suc k) e = omega (arith, inside k (omega arith))

  pub lent_length : length (mid_of from (from + count - from) line) ≡ count
  lent_length = length-take-le (from + count - from) (drop from line) (omega (arith, length-drop from line, lent_end)) ∙ omega arith

  pub lent_value : (i : ℕ) → i < count → get_or (mid_of from (from + count - from) line) i (pos 0) ≡ get_or line (first + i) (pos 0)
  lent_value i below =
      let same : from + i ≡ first + i = omega (arith, inside i below) in
      get_or-take (from + count - from) (drop from line) i (pos 0) (omega arith) ∙ get_or-drop from line i (pos 0)
      ∙ ap (λ (k : ℕ). get_or line k (pos 0)) same

-- what a row shows of a map row that is lent is what it shows of the map
pub shown_lent : (s : Shown) (map : List ℤ) (from k width : ℕ) → k ≡ width → ((i : ℕ) → i < s.count → s.first + i < width) → (p : ℕ)
    → shown_at s 0 (mid_of from k map) s.first p ≡ shown_at s 0 map (from + s.first) p
shown_lent s map from k width k_is in_map p = go (spread s.spacing (0 + s.begin) s.count p) refl
  where
    go : (t : Bool) → spread s.spacing (0 + s.begin) s.count p ≡ t
        → shown_at s 0 (mid_of from k map) s.first p ≡ shown_at s 0 map (from + s.first) p
    go true e =
        let j : ℕ = (p - (0 + s.begin)) / s.spacing in
        let (low, whole, high) = spread_is s.spacing (0 + s.begin) s.count p (subst T (sym e) tt) in
        let place : from + (s.first + j) ≡ from + s.first + j = omega arith in
        rw e
        (get_or-take k (drop from map) (s.first + j) (pos 0) (omega (arith, in_map j high)) ∙ get_or-drop from map (s.first + j) (pos 0)
        ∙ ap (λ (i : ℕ). get_or map i (pos 0)) place)
    go false e = rw e refl
