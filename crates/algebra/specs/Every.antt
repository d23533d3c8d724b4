-- A test of all numbers below n, the laws of which are in `EveryLaws`, and of all elements of a list.
use Rattle.std.specs.Prelude.{Bool, true, ◌&&◌, List, [], ◌∷◌, ℕ, zero, suc}

-- whether a test holds of every number below n
abbrev pub every : ℕ → (ℕ → Bool) → Bool
every zero test = true
every (suc n) test = every n test && test n

-- whether a test holds of every element of a list
abbrev pub every_of : {A : Type 0} → (A → Bool) → List A → Bool
every_of test [] = true
every_of test (element ∷ elements) = test element && every_of test elements
