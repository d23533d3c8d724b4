-- Part after part: what the output holds once the parts from `from` up to some part are written, and that this is `finished`.
-- It rests on the laws of writes.
use mathlib.Core.Path.{◌≡◌, refl}
use mathlib.Core.Logic.{◌⊎◌, inl, inr}
use mathlib.Core.Bool.{Bool, true, false, ◌&&◌, cond}
use mathlib.Core.List.{List}
use Prim.Native.Nat.{ℕ, ◌+◌, ◌≤◌, ◌<◌}
use native.Mathlib.Decide.{ℕ_discrete}
use native.Mathlib.Omega.{arith}
use lib.Dec.{leb, ltb}
use lib.IntN.{ℤ, pos}
use lib.ListN.{length, get_or}
use borrow.Author.Tests.{leb-true, leb-false, ltb-true, ltb-false}
use Rattle.algebra.specs.Places.{Written}
use Rattle.algebra.specs.PlacesLaws.{table_of, written_nothing, written_again}
use Rattle.layer.specs.declared.shape.Layer.{Layer}
use Rattle.layer.specs.Direct.{direct_at}
use Rattle.checks.specs.Engine.{Engine}
use Rattle.engine.specs.Call.{finished}

module _ (engine : Engine) (l : Layer) (map kernel : List ℤ) (from : ℕ) where
  -- a part from `from` on and before `to` holds the place
  abbrev pub Between : (to p : ℕ) → Type 0
  Between to p = (from ≤ engine.part_of l p) × (engine.part_of l p < to)

  -- ys is xs with the parts from `from` up to `to` written
  abbrev pub PartsWritten : (to : ℕ) (xs ys : List ℤ) → Type 0
  PartsWritten to xs ys = Written (pos 0) (Between to) (direct_at l map kernel) xs ys

  pub no_part : {xs : List ℤ} → PartsWritten from xs xs
  no_part = written_nothing (λ p h. omega arith)

  pub one_more_part : {xs ys zs : List ℤ} (part : ℕ) → from ≤ part → PartsWritten part xs ys
      → Written (pos 0) (λ p. engine.part_of l p ≡ part) (direct_at l map kernel) ys zs → PartsWritten (part + 1) xs zs
  one_more_part part low before one =
      written_again before one (λ p below h. by_part p h (ℕ_discrete (engine.part_of l p) part))
      (λ p h. (h.0, omega arith)) (λ p h. (omega arith, omega arith))
    where
      by_part : (p : ℕ) → Between (part + 1) p → Dec (engine.part_of l p ≡ part)
          → (Between part p × (engine.part_of l p ≡ part → ⊥)) ⊎ (engine.part_of l p ≡ part)
      by_part p h (yes e) = inr e
      by_part p h (no n) = inl ((h.0, omega arith), n)

  pub written_finished : {xs ys : List ℤ} (to : ℕ) → PartsWritten to xs ys → ys ≡ finished engine l map kernel from to xs
  unfolding finished
  written_finished {xs} {ys} to w =
      table_of (pos 0) (length xs)
      (λ p. cond (leb from (engine.part_of l p) && ltb (engine.part_of l p) to) (direct_at l map kernel p) (get_or xs p (pos 0))) ys w.same_length
      (λ p below. by_tests p below (leb from (engine.part_of l p)) (ltb (engine.part_of l p) to) refl refl)
    where
      by_tests : (p : ℕ) → p < length xs → (a b : Bool) → leb from (engine.part_of l p) ≡ a → ltb (engine.part_of l p) to ≡ b
          → get_or ys p (pos 0) ≡ cond (a && b) (direct_at l map kernel p) (get_or xs p (pos 0))
      by_tests p below true true e f = w.here p below (leb-true _ _ e, ltb-true _ _ f)
      by_tests p below true false e f =
          let over : to ≤ engine.part_of l p = ltb-false _ _ f in w.kept p (λ h. omega arith)
      by_tests p below false b e f =
          let under : engine.part_of l p < from = leb-false _ _ e in w.kept p (λ h. omega arith)
