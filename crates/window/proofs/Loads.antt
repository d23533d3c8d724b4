-- Laws of `Word` and `Loaded`: no load, cleared places, two loads in a row, one store more, and so one more
-- place of a run or of places that stand apart.
use mathlib.Core.Path.{◌≡◌, refl, sym, ap, ◌∙◌, subst}
use mathlib.Core.Logic.{◌⊎◌, inl, inr, ⊎_elim}
use mathlib.Core.List.{List}
use Prim.Native.Nat.{ℕ, ◌+◌, ◌*◌, ◌-◌, ◌/◌, ◌<◌, ◌≤◌}
use native.Mathlib.Nat.{div-add-mod'}
use native.Mathlib.Decide.{ℕ_discrete, dec_lt}
use native.Mathlib.Omega.{arith}
use lib.Dec.{T}
use lib.IntN.{ℤ, pos}
use lib.ListN.{length, get_or, set, length-set, drop, length-drop}
use lib.Seq.{get_or-set_same, get_or-set_other, length-take-le}
use borrow.Rule.Slice.PartMut.{mid_of, put_mid}
use Rattle.algebra.specs.Places.{Written, Run}
use Rattle.algebra.specs.PlacesLaws.{written_part}
use Rattle.spectrum.specs.Value.{Word}
use Rattle.layer.specs.Windows.{spread}
use Rattle.layer.specs.WindowLaws.{spread_is, spread_yes}
use Rattle.window.specs.Loaded.{Loaded}

module _ {m : ℕ} where
  -- the word 0 is one for the value 0
  pub word_zero : Word m (pos 0) 0
  word_zero = record { value = record { multiple = pos 0; equation = ap pos (omega arith) }; bound = omega arith }

  pub loaded_none : {P : ℕ → Type 0} {v : ℕ → ℤ} {xs : List ℕ} → ((p : ℕ) → P p → ⊥) → Loaded m P v xs xs
  loaded_none none = record { same_length = refl; here = λ p l h. absurd (none p h); kept = λ p h. refl }

  -- places that are cleared
  pub loaded_clear : {P : ℕ → Type 0} {xs ys : List ℕ} → Written 0 P (λ _. 0) xs ys → Loaded m P (λ _. pos 0) xs ys
  loaded_clear w = record { same_length = w.same_length; here = λ p l h. rw (w.here p l h) word_zero; kept = w.kept }

  -- the same places and values by other names
  pub loaded_as : {P Q : ℕ → Type 0} {u v : ℕ → ℤ} {xs ys : List ℕ} → Loaded m P u xs ys
      → ((p : ℕ) → p < length xs → Q p → P p × (u p ≡ v p)) → ((p : ℕ) → P p → Q p) → Loaded m Q v xs ys
  loaded_as {xs = xs} {ys = ys} w to back = record {
    same_length = w.same_length;
    here = λ p l h. subst (λ (z : ℤ). Word m z (get_or ys p 0)) (to p l h).1 (w.here p l (to p l h).0);
    kept = λ p out. w.kept p (λ h. out (back p h));
  }

  -- two loads in a row; the second one's places win
  pub loaded_again : {P Q R : ℕ → Type 0} {u v w : ℕ → ℤ} {xs ys zs : List ℕ} → Loaded m P u xs ys → Loaded m Q v ys zs
      → ((p : ℕ) → p < length xs → R p → (P p × (Q p → ⊥) × (u p ≡ w p)) ⊎ (Q p × (v p ≡ w p)))
      → ((p : ℕ) → P p → R p) → ((p : ℕ) → Q p → R p) → Loaded m R w xs zs
  loaded_again {P} {Q} {u = u} {v = v} {w = w} {xs = xs} {ys = ys} {zs = zs} a b to left right = record {
    same_length = b.same_length ∙ a.same_length;
    here = λ p l h. ⊎_elim (first p l) (second p l) (to p l h);
    kept = λ p out. b.kept p (λ h. out (right p h)) ∙ a.kept p (λ h. out (left p h));
  }
    where
      first : (p : ℕ) → p < length xs → P p × (Q p → ⊥) × (u p ≡ w p) → Word m (w p) (get_or zs p 0)
      first p l (h, out, e) = rw (← e, b.kept p out) (a.here p l h)

      second : (p : ℕ) → p < length xs → Q p × (v p ≡ w p) → Word m (w p) (get_or zs p 0)
      second p l (h, e) = rw (← e) (b.here p (omega (arith, a.same_length)) h)

  -- one store more: P and the place k make up R
  pub loaded_next : {P R : ℕ → Type 0} {v : ℕ → ℤ} {xs ys : List ℕ} (k x : ℕ) → k < length xs → Loaded m P v xs ys → Word m (v k) x
      → ((p : ℕ) → R p → (p ≡ k → ⊥) → P p) → ((p : ℕ) → P p → R p) → R k → Loaded m R v xs (set ys k x)
  loaded_next {P} {R} {v} {xs} {ys} k x l w one to back last = record {
    same_length = length-set ys k x ∙ w.same_length;
    here = λ p lp h. go p lp h (ℕ_discrete p k);
    kept = λ p out. get_or-set_other ys k p x 0 (λ e. out (subst R (sym e) last)) ∙ w.kept p (λ h. out (back p h));
  }
    where
      go : (p : ℕ) → p < length xs → R p → Dec (p ≡ k) → Word m (v p) (get_or (set ys k x) p 0)
      go p lp h (yes e) = rw (e, get_or-set_same ys k x 0 (omega (arith, w.same_length))) one
      go p lp h (no d) = rw (get_or-set_other ys k p x 0 d) (w.here p lp (to p h d))

  -- places `spacing` apart from the first word on, one more
  pub loaded_apart : {v : ℕ → ℤ} {xs ys : List ℕ} (spacing i x : ℕ) → 0 < spacing → i * spacing < length xs
      → Loaded m (λ p. T (spread spacing 0 i p)) v xs ys → Word m (v (i * spacing)) x
      → Loaded m (λ p. T (spread spacing 0 (i + 1) p)) v xs (set ys (i * spacing) x)
  loaded_apart spacing i x some l w one =
      loaded_next (i * spacing) x l w one before after
      (spread_yes spacing 0 (i + 1) (i * spacing) i (omega arith) (omega arith) some (omega arith))
    where
      before : (p : ℕ) → T (spread spacing 0 (i + 1) p) → (p ≡ i * spacing → ⊥) → T (spread spacing 0 i p)
      before p t d =
          let (low, whole, high) = spread_is spacing 0 (i + 1) p t in
          let q : ℕ = (p - 0) / spacing in
          let e : q * spacing ≡ p - 0 = omega (arith, div-add-mod' (p - 0) spacing) in
          let other : (q ≡ i → ⊥) = λ same. d (omega (arith, ap (λ (k : ℕ). k * spacing) same)) in
          spread_yes spacing 0 i p q low (sym e) some (omega arith)

      after : (p : ℕ) → T (spread spacing 0 i p) → T (spread spacing 0 (i + 1) p)
      after p t =
          let (low, whole, high) = spread_is spacing 0 i p t in
          spread_yes spacing 0 (i + 1) p ((p - 0) / spacing) low (omega (arith, div-add-mod' (p - 0) spacing)) some (omega arith)

  -- a run and the next run
  pub loaded_runs : {v : ℕ → ℤ} {xs ys zs : List ℕ} (at i k : ℕ) → Loaded m (Run at i) v xs ys → Loaded m (Run (at + i) k) v ys zs
      → Loaded m (Run at (i + k)) v xs zs
  loaded_runs {v} at i k a b =
      loaded_again a b (λ p l h. go p h (dec_lt p (at + i))) (λ p h. (h.0, omega arith)) (λ p h. (omega arith, omega arith))
    where
      go : (p : ℕ) → Run at (i + k) p → Dec (p < at + i)
          → (Run at i p × (Run (at + i) k p → ⊥) × (v p ≡ v p)) ⊎ (Run (at + i) k p × (v p ≡ v p))
      go p h (yes l) = inl ((h.0, l), (λ r. omega (arith, r)), refl)
      go p h (no l) = inr ((omega arith, omega arith), refl)

  -- a part of the words that was lent and came back
  pub loaded_part : {P : ℕ → Type 0} {v : ℕ → ℤ} {xs ys : List ℕ} (a k : ℕ) → a + k ≤ length xs → Loaded m P v (mid_of a k xs) ys
      → Loaded m (λ p. (Run a k p) × P (p - a)) (λ p. v (p - a)) xs (put_mid a k xs ys)
  loaded_part {P} {v} {xs} {ys} a k le w = record {
    same_length = written.same_length;
    here = λ p l h. rw (written.here p l h) (w.here (p - a) (omega (arith, part, h.0)) h.1);
    kept = written.kept;
  }
    where
      part : length (mid_of a k xs) ≡ k
      part = length-take-le k (drop a xs) (omega (arith, length-drop a xs))

      written : Written 0 (λ p. (Run a k p) × P (p - a)) (λ p. get_or ys (p - a) 0) xs (put_mid a k xs ys)
      written = written_part a k le (record { same_length = w.same_length; here = λ p l h. refl; kept = w.kept })

  -- values apart in a part that is lent from a word on: u has them by their index
  pub apart_lent : {u : ℕ → ℤ} {xs ys : List ℕ} (spacing begin place count : ℕ) (values : List ℤ) → 0 < spacing → place ≡ begin
      → length values ≡ count → begin ≤ length xs → ((i : ℕ) → i < count → get_or values i (pos 0) ≡ u i)
      → Loaded m (λ p. T (spread spacing 0 (length values) p)) (λ p. get_or values (p / spacing) (pos 0)) (mid_of begin (length xs - begin) xs) ys
      → Loaded m (λ p. T (spread spacing place count p)) (λ p. u ((p - place) / spacing)) xs (put_mid begin (length xs - begin) xs ys)
  apart_lent {u} {xs} spacing begin place count values some place_is size room same w =
      loaded_as (loaded_part begin (length xs - begin) (omega arith) w)
      (λ p l t.
      let (low, whole, high) = spread_is spacing place count p t in
      let there : p - begin - 0 ≡ p - place = omega arith in (
        (
          (omega arith, omega arith),
          spread_yes spacing 0 (length values) (p - begin) ((p - place) / spacing) (omega arith)
              (omega (arith, there, div-add-mod' (p - place) spacing)) some (omega (arith, high)),
        ),
        ap (λ (k : ℕ). get_or values ((p - k) / spacing) (pos 0)) (sym place_is) ∙ same ((p - place) / spacing) high,
      ))
      (λ p h.
      let (low, whole, high) = spread_is spacing 0 (length values) (p - begin) h.1 in
      spread_yes spacing place count p ((p - begin - 0) / spacing) (omega (arith, h.0))
      (omega (arith, h.0, div-add-mod' (p - begin - 0) spacing)) some (omega (arith, high)))
