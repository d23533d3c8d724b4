-- What running one layer of a sequence asks and gives. Contracts of what runs the layers speak of it. The laws are in `ReadyLaws`.
use Rattle.std.specs.Prelude.{◌≡◌, List, ℕ, ◌≤◌, ◌<◌, ℤ, take}
use Rattle.layer.specs.Planned.{Planned}
use Rattle.layer.specs.Shape.{map_count, output_count, scratch_words}
use Rattle.levels.specs.Answer.{levels_code}
use Rattle.steps.specs.declared.step.Step.{Step}
use Rattle.steps.specs.Steps.{weights_before, kernel_at}
use Rattle.steps.specs.Linked.{Usable}
use Rattle.steps.specs.Runnable.{Taken}
use Rattle.sequence.specs.Sequence.{sums_of, map_after}

-- step k may be run on the map at the front of `map`; the two lengths are those of the output buffer and of scratch
pub record RunReady (steps : ℕ → Step) (k : ℕ) (map kernels : List ℤ) (output scratch : ℕ) : Type 0 where
  pub below : k < 8
  pub usable : (i : ℕ) → i ≤ k → Usable (steps i) (weights_before steps i) kernels
  pub taken : Taken (steps k).layer (take (map_count (steps k).layer) map)
  pub output_room : output_count (steps k).layer ≤ output
  pub scratch_room : scratch_words (steps k).layer ≤ scratch

-- the levels of a step's outputs, at the front of an output buffer, may be written to the front of a map; the two lengths are those of the buffers
pub record LevelsReady (s : Step) (output map : ℕ) : Type 0 where
  pub plan : Planned s.layer
  pub passed : levels_code s.shift s.bound (output_count s.layer) (output_count s.layer) ≡ 0
  pub output_room : output_count s.layer ≤ output
  pub map_room : output_count s.layer ≤ map

-- step k was run: its direct sums stand at the front of the output buffer
pub record Ran (steps : ℕ → Step) (map kernels : List ℤ) (k : ℕ) (output : List ℤ) : Type 0 where
  pub sums : take (output_count (steps k).layer) output ≡ sums_of (steps k).layer (map_after steps map kernels k) (kernel_at steps kernels k)
