-- A loop that changes one word after another: the words before i are done, R says how, and the others are as they were.
use Rattle.std.specs.Prelude.{◌≡◌, refl, List, ℕ, ◌+◌, ◌<◌, ◌≤◌, length, get_or, set}
use Rattle.std.proofs.Common.{sym, ◌∙◌, subst, arith, length-set, get_or-set_same, get_or-set_other}
use Rattle.std.proofs.Math.Decide.{ℕ_discrete}

-- R p a b: at place p the word a becomes b
pub record WordsDone (R : ℕ → ℕ → ℕ → Type 0) (i : ℕ) (xs ys : List ℕ) : Type 0 where
  pub same_length : length ys ≡ length xs
  pub done : (p : ℕ) → p < i → R p (get_or xs p 0) (get_or ys p 0)
  pub left : (p : ℕ) → i ≤ p → get_or ys p 0 ≡ get_or xs p 0

module _ {R : ℕ → ℕ → ℕ → Type 0} {xs : List ℕ} where
  pub words_none : WordsDone R 0 xs xs
  words_none = record { same_length = refl; done = λ p l. absurd (omega arith); left = λ p l. refl }

  pub words_next : {ys : List ℕ} {i : ℕ} (x : ℕ) → i < length xs → WordsDone R i xs ys → R i (get_or ys i 0) x
      → WordsDone R (i + 1) xs (set ys i x)
  words_next {ys} {i} x l w r = record {
    same_length = length-set ys i x ∙ w.same_length;
    done = λ p lp. go p lp (ℕ_discrete p i);
    left = λ p lp. get_or-set_other ys i p x 0 (λ e. omega arith) ∙ w.left p (omega arith);
  }
    where
      go : (p : ℕ) → p < i + 1 → Dec (p ≡ i) → R p (get_or xs p 0) (get_or (set ys i x) p 0)
      go p lp (yes e) =
          subst (λ (k : ℕ). R k (get_or xs k 0) (get_or (set ys i x) k 0)) (sym e)
          (rw (get_or-set_same ys i x 0 (omega (arith, w.same_length))) (subst (λ (a : ℕ). R i a x) (w.left i (omega arith)) r))
      go p lp (no d) = rw (get_or-set_other ys i p x 0 d) (w.done p (omega arith))
