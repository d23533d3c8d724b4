-- Rules in a fixed order: a check answers with the number of the first rule that does not hold, its code, or with 0. The laws are in `RulesLaws`.
use Rattle.std.specs.Prelude.{Bool, ◌&&◌, cond, List, [], ◌∷◌, ℕ, zero, suc, leb, eqb}

-- a rule: the number that its breach is answered with, and whether it holds
pub data Rule : Type 0 where
  rule : ℕ → Bool → Rule

-- the number of the first rule that does not hold, or 0
abbrev pub first_broken : List Rule → ℕ
first_broken [] = 0
first_broken (rule number holds ∷ rules) = cond holds (first_broken rules) number

-- the rules before the first with this number
abbrev pub rules_before : (number : ℕ) → List Rule → List Rule
rules_before number [] = []
rules_before number (rule other holds ∷ rules) = cond (eqb other number) [] (rule other holds ∷ rules_before number rules)

-- the first of two codes that is not 0, or 0
unfoldable pub first_code : (code other : ℕ) → ℕ
first_code zero other = other
first_code (suc code) other = suc code

-- the code after one rule more: the code so far, or, where that is 0, this rule's number if the rule does not hold
unfoldable pub next_code : (code number : ℕ) → (holds : Bool) → ℕ
next_code code number holds = first_code code (cond holds 0 number)

-- x is from low to high
unfoldable pub inside : (low high x : ℕ) → Bool
inside low high x = leb low x && leb x high

-- what stands in the end: what was made where the code is 0, else what was lent
abbrev pub outcome : {A : Type 0} → (code : ℕ) → (made lent : A) → A
outcome zero made lent = made
outcome (suc code) made lent = lent
