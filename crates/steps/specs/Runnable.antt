-- What all rules of a sequence give. Contracts of what runs the layers ask for it. The law is in `RunnableLaws`.
use Rattle.std.specs.Prelude.{◌≡◌, true, List, ℕ, ◌-◌, ◌≤◌, ℤ, length}
use Rattle.layer.specs.declared.shape.Layer.{Layer}
use Rattle.layer.specs.Shape.{map_count, output_count}
use Rattle.load.specs.Load.{within_peak}
use Rattle.steps.specs.declared.step.Step.{Step}
use Rattle.steps.specs.declared.answer.Room.{Room}
use Rattle.steps.specs.Linked.{Linked}
use Rattle.steps.specs.Lent.{most_outputs, most_scratch}

-- the map is one that the layer takes: it has the layer's length and lies within its peak
pub record Taken (l : Layer) (map : List ℤ) : Type 0 where
  pub map-length : length map ≡ map_count l
  pub values : within_peak l.peak map ≡ true

-- the buffers have room for every layer; the arguments are lengths, and `final` has the last layer's
pub record Roomy (count : ℕ) (steps : ℕ → Step) (work output scratch final : ℕ) : Type 0 where
  pub work_room : most_outputs count steps ≤ work
  pub output_room : most_outputs count steps ≤ output
  pub scratch_room : most_scratch count steps ≤ scratch
  pub final_length : final ≡ output_count (steps (count - 1)).layer

pub record Runnable (count : ℕ) (steps : ℕ → Step) (map kernels : List ℤ) (room : Room) : Type 0 where
  pub link : Linked count steps kernels
  pub first_map : Taken (steps 0).layer map
  pub roomy : Roomy count steps room.first room.output room.scratch room.last
