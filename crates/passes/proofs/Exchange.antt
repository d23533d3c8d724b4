-- Words that change places along an involution s of the indices, pair after pair in the order of the lower index.
-- `Exchanged s a b` says which pairs have changed; its laws rest on those of `Written`.
use mathlib.Core.Path.{◌≡◌, refl, sym, ap, ◌∙◌}
use mathlib.Core.Logic.{◌⊎◌, inl, inr}
use mathlib.Core.List.{List}
use Prim.Native.Nat.{ℕ, ◌+◌, ◌≤◌, ◌<◌, min}
use native.Mathlib.Decide.{dec_lt}
use native.Mathlib.Omega.{arith}
use lib.ListN.{length, get_or, set, length-set}
use Rattle.std.specs.List.{swap}
use Rattle.std.proofs.lemmas.List.Edits.{swap_is}
use Rattle.algebra.specs.PlacesLaws.{written_one, written_as, written_again}
use Rattle.passes.specs.Order.{Permuted, Involution, LowerIn, Exchanged}

module _ {s : ℕ → ℕ} {n : ℕ} (i : Involution n s) {xs : List ℕ} (len : length xs ≡ n) where
  -- no word moves where no index from a up to b is the lower of two
  pub exchange_none : {a b : ℕ} → ((k : ℕ) → a ≤ k → k < b → s k ≤ k) → Exchanged s a b xs xs
  exchange_none {a} {b} done = record {
    same_length = refl;
    here = λ p l h. ap (λ (k : ℕ). get_or xs k 0) (go p (omega arith) h (dec_lt (s p) p));
    kept = λ p out. refl;
  }
    where
      go : (p : ℕ) → p < n → LowerIn s a b p → Dec (s p < p) → p ≡ s p
      go p l h (yes d) = absurd (omega (arith, i.twice p l, done (s p) (omega arith) (omega arith)))
      go p l h (no d) = omega (arith, done p (omega arith) (omega arith))

  -- the words at k and s k
  exchange_one : (k : ℕ) → k < s k → k < n → Exchanged s k (k + 1) xs (set (set xs k (get_or xs (s k) 0)) (s k) (get_or xs k 0))
  exchange_one k d l =
      written_again (written_one k (get_or xs (s k) 0) (omega arith) refl)
      (written_one (s k) (get_or xs k 0) (rw length-set (omega (arith, i.within k l))) (ap (λ (p : ℕ). get_or xs p 0) (sym back)))
      (λ p l h. to p (omega arith) h (dec_lt p (s p))) (λ p h. from p (omega (arith, ap s h))) (λ p h. from p (omega (arith, ap s h, back)))
    where
      back : s (s k) ≡ k
      back = i.twice k l

      to : (p : ℕ) → p < n → LowerIn s k (k + 1) p → Dec (p < s p) → ((p ≡ k) × (p ≡ s k → ⊥)) ⊎ (p ≡ s k)
      to p l h (yes first) = inl (omega arith, λ e. omega arith)
      to p l h (no first) = let e : s p ≡ k = omega arith in inr (sym (i.twice p l) ∙ ap s e)

      from : (p : ℕ) → min p (s p) ≡ k → LowerIn s k (k + 1) p
      from p e = (omega arith, omega arith)

  -- from a up to b, and then from b up to c
  pub exchange_then : {a b c : ℕ} {ys zs : List ℕ} → Exchanged s a b xs ys → Exchanged s b c ys zs → a ≤ b → b ≤ c → Exchanged s a c xs zs
  exchange_then {a} {b} {c} u w lb lc =
      written_again u (written_as w (λ p l h. h) (λ p h. h) (λ p l h. u.kept (s p) (apart p (omega (arith, u.same_length)) h)))
      (λ p l h. to p h (dec_lt (min p (s p)) b)) (λ p h. (h.0, omega arith)) (λ p h. (omega arith, h.1))
    where
      apart : (p : ℕ) → p < n → LowerIn s b c p → LowerIn s a b (s p) → ⊥
      apart p l h g = omega (arith, i.twice p l)

      to : (p : ℕ) → LowerIn s a c p → Dec (min p (s p) < b) → (LowerIn s a b p × (LowerIn s b c p → ⊥)) ⊎ LowerIn s b c p
      to p h (yes d) = inl ((h.0, d), λ g. omega arith)
      to p h (no d) = inr (omega arith, h.1)

module _ {s : ℕ → ℕ} {n a k : ℕ} (i : Involution n s) {xs ys : List ℕ} (len : length xs ≡ n) (w : Exchanged s a k xs ys) (la : a ≤ k) where
  -- one exchange more, of the words at k and q
  pub exchange_step : {b q : ℕ} {zs : List ℕ} → b ≡ k + 1 → s k ≡ q → k < q → k < n → zs ≡ swap ys k q → Exchanged s a b xs zs
  exchange_step {q = q} next e d l new =
      let size : length ys ≡ n = w.same_length ∙ len in
      let sets = swap_is ys k q 0 (omega arith) (omega (arith, i.within k l)) in
      exchange_then i len w (rw (new ∙ sym sets, next, ← e) (exchange_one i size k (omega arith) l)) la (omega arith)

  -- k is not the lower of two
  pub exchange_skip : s k ≤ k → Exchanged s a (k + 1) xs ys
  exchange_skip d = exchange_then i len w (exchange_none i (w.same_length ∙ len) only) la (omega arith)
    where
      only : (p : ℕ) → k ≤ p → p < k + 1 → s p ≤ p
      only p above below = let e : p ≡ k = omega arith in rw e d

-- all words have changed places
pub exchange_all : (s : ℕ → ℕ) {b : ℕ} {xs ys : List ℕ} → length xs ≤ b → Exchanged s 0 b xs ys → Permuted s xs ys
exchange_all s lb w p l = w.here p l (omega arith, omega arith)
