-- 02, E3 and E11: the rules of a sequence that speak of what is lent: after 21 to 22 come 10, 12 and 13 of the lengths, then 15 and 25 of the first map;
-- and what a sequence answers.
use Rattle.std.specs.Prelude.{Bool, ◌&&◌, List, [], ◌∷◌, ◌++◌, ℕ, ◌-◌, eqb, leb, ℤ, length}
use Rattle.algebra.specs.Greatest.{greatest}
use Rattle.base.specs.Rules.{Rule, rule, first_broken}
use Rattle.layer.specs.Shape.{output_count, scratch_words}
use Rattle.checks.specs.declared.calls.Checked.{Checked}
use Rattle.checks.specs.Rules.{map_length_rule, scratch_rule}
use Rattle.checks.specs.Checks.{map_value_rules, offender_with}
use Rattle.steps.specs.declared.step.Step.{Step}
use Rattle.steps.specs.declared.answer.Room.{Room}
use Rattle.steps.specs.Answer.{steps_rules}

-- ---- the rules

-- the outputs of the layer that has the most, and the greatest 3N²
abbrev pub most_outputs : (count : ℕ) → (ℕ → Step) → ℕ
most_outputs count steps = greatest count (λ k. output_count (steps k).layer)

abbrev pub most_scratch : (count : ℕ) → (ℕ → Step) → ℕ
most_scratch count steps = greatest count (λ k. scratch_words (steps k).layer)

-- the final buffer has the last layer's length, and neither a work map nor the output buffer is shorter than the greatest layer's
abbrev pub buffers_fit : Room → (last most : ℕ) → Bool
buffers_fit room last most = eqb room.last last && leb most room.first && leb most room.second && leb most room.output

-- 12
abbrev pub buffers_rule : (count : ℕ) → (ℕ → Step) → Room → Rule
buffers_rule count steps room = rule 12 (buffers_fit room (output_count (steps (count - 1)).layer) (most_outputs count steps))

-- 10 for the first map, of which `map` is the length, 12 and 13
abbrev pub room_rules : (count : ℕ) → (ℕ → Step) → (map : ℕ) → Room → List Rule
room_rules count steps map room =
    map_length_rule (steps 0).layer map ∷ buffers_rule count steps room ∷ scratch_rule (most_scratch count steps) room.scratch ∷ []

-- 21 to 22, 10, 12, 13, and 15 and 25 for the first map
abbrev pub sequence_rules : (count : ℕ) → (ℕ → Step) → (map kernels : List ℤ) → Room → List Rule
sequence_rules count steps map kernels room =
    steps_rules count steps kernels ++ (room_rules count steps (length map) room ++ map_value_rules (steps 0).layer map)

unfoldable pub sequence_code : (count : ℕ) → (ℕ → Step) → (map kernels : List ℤ) → Room → ℕ
sequence_code count steps map kernels room = first_broken (sequence_rules count steps map kernels room)

-- ---- the answer

-- the number, and with 15 and 25 the first value of the first map beyond its peak
abbrev pub sequence_answer : (count : ℕ) → (ℕ → Step) → (map kernels : List ℤ) → Room → Checked
sequence_answer count steps map kernels room =
    let code = sequence_code count steps map kernels room in
    record { code = code; offender = offender_with code (steps 0).layer map }
