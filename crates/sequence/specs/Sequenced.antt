-- 02, E3: what a call leaves in the five buffers that it writes, with what it answers.
use Rattle.std.specs.Prelude.{◌≡◌, List, ℕ, ℤ, pos, length, replicate}
use Rattle.base.specs.Rules.{outcome}
use Rattle.checks.specs.declared.calls.Checked.{Checked}
use Rattle.steps.specs.declared.answer.Room.{Room}
use Rattle.steps.specs.Steps.{step_at}
use Rattle.steps.specs.Lent.{sequence_answer}
use Rattle.sequence.specs.Sequence.{map_after}

-- as many zeros as were words lent
abbrev pub zeros : {A : Type 0} → (zero : A) → (lent : List A) → List A
zeros zero lent = replicate (length lent) zero

-- the lengths of the buffers that are lent
abbrev pub room_of : (first second output : List ℤ) → (scratch : List ℕ) → (final : List ℤ) → Room
room_of first second output scratch final =
    record { first = length first; second = length second; output = length output; scratch = length scratch; last = length final }

-- a call that is lent steps, a first map, kernels and five buffers answers so and leaves the buffers so: the map after the last step in the final
-- buffer, zeros in the others; a refusal leaves each as it was lent
pub record Sequenced
    (count : ℕ) (numbers : List ℕ) (map kernels first second output : List ℤ) (scratch : List ℕ) (final : List ℤ) (answer : Checked)
    (first-left second-left left_output : List ℤ) (left_scratch : List ℕ) (final-left : List ℤ) : Type 0
  where
    pub answers : answer ≡ sequence_answer count (step_at numbers) map kernels (room_of first second output scratch final)
    pub grows : final-left ≡ outcome answer.code (map_after (step_at numbers) map kernels count) final
    pub clears_first : first-left ≡ outcome answer.code (zeros (pos 0) first) first
    pub clears_second : second-left ≡ outcome answer.code (zeros (pos 0) second) second
    pub clears_output : left_output ≡ outcome answer.code (zeros (pos 0) output) output
    pub clears_scratch : left_scratch ≡ outcome answer.code (zeros 0 scratch) scratch
