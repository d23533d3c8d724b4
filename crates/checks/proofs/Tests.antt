-- Two tests of numbers that hold in the same case are equal. It rests on the tests' definitions alone.
use mathlib.Core.Path.{◌≡◌, refl, sym, ◌∙◌}
use mathlib.Core.Bool.{Bool, true, false}
use Prim.Native.Nat.{ℕ, ◌≤◌, ◌<◌}
use lib.Dec.{leb}
use borrow.Author.Tests.{le-leb, lt-leb, leb-true, leb-false}

pub leb_same : (a b c d : ℕ) → (a ≤ b → c ≤ d) → (b < a → d < c) → leb a b ≡ leb c d
leb_same a b c d holds fails = by_answer (leb a b) refl
  where
    by_answer : (t : Bool) → leb a b ≡ t → leb a b ≡ leb c d
    by_answer true e = e ∙ sym (le-leb c d (holds (leb-true a b e)))
    by_answer false e = e ∙ sym (lt-leb c d (fails (leb-false a b e)))
