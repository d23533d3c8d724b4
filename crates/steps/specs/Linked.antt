-- What the rules 21 to 22 give of the steps of a sequence and its kernels. Contracts of what runs the layers ask for it. The laws are in
-- `LinkedLaws`.
use Rattle.std.specs.Prelude.{◌≡◌, true, List, ℕ, ◌+◌, ◌≤◌, ◌<◌, ℤ, length}
use Rattle.layer.specs.Shape.{kernel_count}
use Rattle.layer.specs.Planned.{Planned}
use Rattle.load.specs.Load.{loads_fit}
use Rattle.load.specs.Blank.{none_blank}
use Rattle.checks.specs.Engine.{tile_engine}
use Rattle.checks.specs.Checks.{plan_code}
use Rattle.steps.specs.declared.step.Step.{Step}
use Rattle.steps.specs.Steps.{weights_before, kernel_from}

-- of one layer, after so many weights of the layers before it
pub record Usable (s : Step) (before : ℕ) (kernels : List ℤ) : Type 0 where
  pub plan : plan_code tile_engine s.layer ≡ 0
  pub weights : before + kernel_count s.layer ≤ length kernels
  pub peak_low : 1 ≤ s.layer.peak
  pub peak_high : s.layer.peak ≤ 32767
  pub none_blank_lem : none_blank s.layer (kernel_from s before kernels) ≡ true
  pub loads : loads_fit s.layer (kernel_from s before kernels) ≡ true
  pub shift_high : s.shift ≤ 31
  pub bound_low : 1 ≤ s.bound
  pub bound_high : s.bound ≤ 32767

-- of a layer and the next one
pub record Follows (one next : Step) : Type 0 where
  pub channels : one.layer.outputs ≡ next.layer.inputs
  pub rows : one.layer.rows ≡ next.layer.height
  pub columns : one.layer.columns ≡ next.layer.width
  pub peak : one.bound ≡ next.layer.peak

-- one to eight layers, each planned
pub record AllPlanned (count : ℕ) (steps : ℕ → Step) : Type 0 where
  pub count_low : 1 ≤ count
  pub count_high : count ≤ 8
  pub layers : (k : ℕ) → k < count → Planned (steps k).layer

-- of all layers
pub record Linked (count : ℕ) (steps : ℕ → Step) (kernels : List ℤ) : Type 0 where
  pub count_low : 1 ≤ count
  pub count_high : count ≤ 8
  pub layers : (k : ℕ) → k < count → Usable (steps k) (weights_before steps k) kernels
  pub links : (k : ℕ) → k + 1 < count → Follows (steps k) (steps (k + 1))
