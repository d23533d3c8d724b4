-- 02, E13: what `worst_map` answers, and what it leaves in `map`.
use Rattle.std.specs.Prelude.{◌&&◌, List, [], ◌∷◌, ◌++◌, ℕ, ℤ, length}
use Rattle.base.specs.Rules.{Rule, rule, first_broken, outcome}
use Rattle.layer.specs.declared.shape.Layer.{Layer}
use Rattle.layer.specs.Shape.{is_conv}
use Rattle.checks.specs.Rules.{map_length_rule, kernel_length_rule, peak_rule, blank_rule}
use Rattle.checks.specs.Checks.{shape_rules, output_rules}
use Rattle.worst.specs.Window.{has_whole}
use Rattle.worst.specs.Worst.{worst_map}

-- 29: the layer is CONV, and some cropped output's whole window lies inside the map
abbrev pub window_rule : Layer → Rule
window_rule l = rule 29 (is_conv l && has_whole l)

-- 10 of the map to be written, 11 and 14. `room` is how many values it has
abbrev pub length_rules : Layer → (kernel : List ℤ) (room : ℕ) → List Rule
length_rules l kernel room = map_length_rule l room ∷ kernel_length_rule l kernel ∷ peak_rule l ∷ []

-- 24 and 29
abbrev pub shown_rules : Layer → (kernel : List ℤ) → List Rule
shown_rules l kernel = blank_rule l kernel ∷ window_rule l ∷ []

-- ---- the answer

-- 1 to 9 with 23, of a layer in either field, then 10, 11, 14, 24 and 29
abbrev pub worst_rules : Layer → (kernel : List ℤ) (room : ℕ) → List Rule
worst_rules l kernel room = shape_rules 5 l ++ output_rules l ++ length_rules l kernel room ++ shown_rules l kernel

unfoldable pub worst_code : Layer → (kernel : List ℤ) (room : ℕ) → ℕ
worst_code l kernel room = first_broken (worst_rules l kernel room)

-- what is left in `map`: the worst map, or what was lent
abbrev pub worst_left : Layer → (kernel map : List ℤ) → List ℤ
worst_left l kernel map = outcome (worst_code l kernel (length map)) (worst_map l kernel) map
