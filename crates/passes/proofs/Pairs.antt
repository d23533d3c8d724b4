-- Laws of `Paired`, the state of a list whose halves are changed pair by pair: no pair, one pair more, two changes in a row.
use mathlib.Core.Path.{◌≡◌, refl, sym, ◌∙◌, subst}
use mathlib.Core.Logic.{◌⊎◌, ⊎_elim}
use mathlib.Core.List.{List}
use Prim.Native.Nat.{ℕ, ◌+◌, ◌*◌, ◌<◌}
use native.Mathlib.Decide.{ℕ_discrete}
use native.Mathlib.Omega.{arith}
use lib.ListN.{length, get_or, set, length-set}
use lib.Seq.{get_or-set_same, get_or-set_other}
use Rattle.algebra.specs.Places.{Run}
use Rattle.passes.specs.Butterfly.{Relation, Same, Pairing, Paired}

pub same_refl : {u v : ℕ} → Same u v u v
same_refl = record { first = refl; second = refl }

pub same_same : {u v y z y' z' : ℕ} → Same u v y z → Same y z y' z' → Same u v y' z'
same_same p q = record { first = q.first ∙ p.first; second = q.second ∙ p.second }

-- words that stay as they were change no relation
pub same_after : (R : Relation) {u v y z y' z' : ℕ} → R u v y z → Same y z y' z' → R u v y' z'
same_after R {u} {v} {y} {z} {y'} {z'} p q =
    subst (λ (i : ℕ). R u v i z') (sym q.first) (subst (λ (i : ℕ). R u v y i) (sym q.second) p)

pub same_before : (R : Relation) {u v u' v' y z : ℕ} → Same u v u' v' → R u' v' y z → R u v y z
same_before R {u} {v} {u'} {v'} {y} {z} q p =
    subst (λ (i : ℕ). R i v y z) q.first (subst (λ (i : ℕ). R u' i y z) q.second p)

pub paired_nothing : (R : ℕ → Relation) {P : ℕ → Type 0} (half : ℕ) (xs : List ℕ) → ((i : ℕ) → P i → ⊥) → Paired R P half xs xs
paired_nothing R half xs none i l = record { here = λ h. absurd (none i h); kept = λ _. same_refl }

-- one pair more: stores at at + k and at half + (at + k)
pub paired_longer : (R : Relation) (at k half y z : ℕ) (xs₀ xs : List ℕ) → at + k < half → length xs ≡ 2 * half
    → Paired (λ _. R) (Run at k) half xs₀ xs
    → R (get_or xs (at + k) 0) (get_or xs (half + (at + k)) 0) y z
    → Paired (λ _. R) (Run at (k + 1)) half xs₀ (set (set xs (at + k) y) (half + (at + k)) z)
paired_longer R at k half y z xs₀ xs lt size all new i l = go (ℕ_discrete i (at + k))
  where
    p : ℕ
    p = at + k

    ys : List ℕ
    ys = set (set xs (at + k) y) (half + (at + k)) z

    go : Dec (i ≡ at + k) → Pairing R (Run at (k + 1) i) (get_or xs₀ i 0) (get_or xs₀ (half + i) 0) (get_or ys i 0) (get_or ys (half + i) 0)
    go (yes e) = subst (λ (i : ℕ). Pairing R (Run at (k + 1) i) (get_or xs₀ i 0) (get_or xs₀ (half + i) 0) (get_or ys i 0) (get_or ys (half + i) 0)) (sym e)
        (rw (
          get_or-set_other (set xs (at + k) y) (half + (at + k)) (at + k) z 0 (omega arith),
          get_or-set_same xs (at + k) y 0 (omega arith),
          get_or-set_same (set xs (at + k) y) (half + (at + k)) z 0 (rw length-set (omega arith)),
        )
        (record { here = λ _. same_before R ((all (at + k) lt).kept (λ h. omega arith)) new; kept = λ out. absurd (out (omega arith, omega arith)) }))
    go (no d) =
        rw (
          get_or-set_other (set xs (at + k) y) (half + (at + k)) i z 0 (omega arith),
          get_or-set_other xs (at + k) i y 0 d,
          get_or-set_other (set xs (at + k) y) (half + (at + k)) (half + i) z 0 (omega arith),
          get_or-set_other xs (at + k) (half + i) y 0 (omega arith),
        )
        (record { here = λ h. (all i l).here (h.0, omega arith); kept = λ out. (all i l).kept (λ h. out (h.0, omega arith)) })

-- two changes in a row, of other pairs
pub paired_again : (R T : ℕ → Relation) {P Q W : ℕ → Type 0} (half : ℕ) (xs ys zs : List ℕ) → Paired R P half xs ys → Paired T Q half ys zs
    → ((i : ℕ) → P i → Q i → ⊥) → ((i : ℕ) → W i → P i ⊎ Q i) → ((i : ℕ) → P i → W i) → ((i : ℕ) → Q i → W i)
    → ((i u v y z : ℕ) → Q i → T i u v y z → R i u v y z) → Paired R W half xs zs
paired_again R T half xs ys zs a b apart to left right gives i l = record {
  here = λ h. ⊎_elim
      (λ p. same_after (R i) ((a i l).here p) ((b i l).kept (λ q. apart i p q)))
      (λ q. same_before (R i) ((a i l).kept (λ p. apart i p q)) (gives i _ _ _ _ q ((b i l).here q)))
      (to i h);
  kept = λ out. same_same ((a i l).kept (λ p. out (left i p))) ((b i l).kept (λ q. out (right i q)));
}
