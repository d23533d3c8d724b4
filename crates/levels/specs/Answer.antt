-- What `levels` answers, and the levels that it leaves.
use Rattle.std.specs.Prelude.{List, [], ◌∷◌, map, ℕ, eqb, ℤ, length}
use Rattle.base.specs.Rules.{Rule, rule, first_broken, inside, outcome}
use Rattle.levels.specs.Level.{level}

-- 20: the shift is 0 to 31; B is 1 to 32,767; there is room for as many levels as there are outputs
abbrev pub levels_rules : (shift bound count room : ℕ) → List Rule
levels_rules shift bound count room =
    rule 20 (inside 0 31 shift)
    ∷ rule 20 (inside 1 32767 bound)
    ∷ rule 20 (eqb room count)
    ∷ []

-- the three of them by name
abbrev pub shift_rule : (shift : ℕ) → Rule
shift_rule shift = rule 20 (inside 0 31 shift)

abbrev pub bound_rule : (bound : ℕ) → Rule
bound_rule bound = rule 20 (inside 1 32767 bound)

abbrev pub room_rule : (count room : ℕ) → Rule
room_rule count room = rule 20 (eqb room count)

unfoldable pub levels_code : (shift bound count room : ℕ) → ℕ
levels_code shift bound count room = first_broken (levels_rules shift bound count room)

-- the level of each output, in order
abbrev pub levels_of : (shift bound : ℕ) → List ℤ → List ℤ
levels_of shift bound outputs = map (level shift bound) outputs

-- what is left in `levels`
abbrev pub levels_left : (shift bound : ℕ) → (outputs levels : List ℤ) → List ℤ
levels_left shift bound outputs levels =
    outcome (levels_code shift bound (length outputs) (length levels)) (levels_of shift bound outputs) levels
