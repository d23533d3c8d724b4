-- 02, E3: a whole sequence, map after map: the direct sums of each layer with its part of the kernels, and E1's levels of them.
use Rattle.std.specs.Prelude.{List, ℕ, zero, suc, ℤ}
use Rattle.algebra.specs.Places.{table}
use Rattle.layer.specs.declared.shape.Layer.{Layer}
use Rattle.layer.specs.Shape.{output_count}
use Rattle.layer.specs.Direct.{direct_at}
use Rattle.levels.specs.Answer.{levels_of}
use Rattle.steps.specs.declared.step.Step.{Step}
use Rattle.steps.specs.Steps.{kernel_at}

-- all outputs of a layer
abbrev pub sums_of : Layer → (map kernel : List ℤ) → List ℤ
sums_of l map kernel = table (output_count l) (direct_at l map kernel)

-- the map that a step makes of a map
abbrev pub grown_by : Step → (map kernel : List ℤ) → List ℤ
grown_by s map kernel = levels_of s.shift s.bound (sums_of s.layer map kernel)

-- the map after the first k steps
unfoldable pub map_after : (ℕ → Step) → (map kernels : List ℤ) → (k : ℕ) → List ℤ
map_after steps map kernels zero = map
map_after steps map kernels (suc k) = grown_by (steps k) (map_after steps map kernels k) (kernel_at steps kernels k)
