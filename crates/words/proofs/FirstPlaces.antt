-- The first place that is found, or the length where there is none.
use Rattle.std.proofs.Common.{◌≡◌, refl, ℕ, suc, ◌+◌, ◌≤◌, Bool, true, false, cond, not, List, [], ◌∷◌, length, Option, Some, None, arith}
use Rattle.std.specs.List.{prefix_len, position_or_len}
use Rattle.std.specs.Option.{unwrap_or}
use lib.Dec.{ltb}
use borrow.Author.Tests.{ltb-false}

module _ (test : ℕ → Bool) where
  pub prefix_within : (xs : List ℕ) → prefix_len test xs ≤ length xs
  prefix_within [] = omega arith
  prefix_within (x ∷ xs) = go (test x) (prefix_within xs)
    where
      go : (t : Bool) → prefix_len test xs ≤ length xs → cond t (1 + prefix_len test xs) 0 ≤ suc (length xs)
      go true h = omega arith
      go false h = omega arith

first_or : (place length : ℕ) → place ≤ length → unwrap_or (cond (ltb place length) (Some place) None) length ≡ place
first_or place length l = go (ltb place length) refl
  where
    go : (t : Bool) → ltb place length ≡ t → unwrap_or (cond t (Some place) None) length ≡ place
    go true e = refl
    go false e = let h = ltb-false place length e in omega arith

pub found_or : (test : ℕ → Bool) (xs : List ℕ) {found : Option ℕ}
    → found ≡ cond (ltb (position_or_len test xs) (length xs)) (Some (position_or_len test xs)) None
    → unwrap_or found (length xs) ≡ position_or_len test xs
found_or test xs e = rw e (first_or _ _ (prefix_within (λ x. not (test x)) xs))
