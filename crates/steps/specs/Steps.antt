-- 02, E3: the steps of a sequence, and the part of the kernels that each layer has. A step is a layer, its shift and its bound B; the steps are eight
-- rows of eighteen numbers, of which a sequence has the first `count`. The kernels stand end to end.
use Rattle.std.specs.Prelude.{List, ℕ, ◌+◌, ◌*◌, ℤ, get_or, take, drop}
use Rattle.algebra.specs.Places.{table}
use Rattle.algebra.specs.Sum.{sum}
use Rattle.layer.specs.Numbers.{layer_of}
use Rattle.layer.specs.Shape.{kernel_count}
use Rattle.steps.specs.declared.step.Step.{Step}

-- number i of row k, both counted from 0
abbrev pub number_at : (numbers : List ℕ) → (k i : ℕ) → ℕ
number_at numbers k i = get_or numbers (18 * k + i) 0

-- step k: in its row the sixteen numbers of the layer, then the shift and B
unfoldable pub step_at : (numbers : List ℕ) → (k : ℕ) → Step
step_at numbers k = record {
  layer = layer_of (table 16 (number_at numbers k));
  shift = number_at numbers k 16;
  bound = number_at numbers k 17;
}

-- the weights of the layers before step k
unfoldable pub weights_before : (ℕ → Step) → (k : ℕ) → ℕ
weights_before steps k = sum k (λ i. kernel_count (steps i).layer)

-- a layer's part of the kernels, after the weights of the layers before it
abbrev pub kernel_from : Step → (before : ℕ) → (kernels : List ℤ) → List ℤ
kernel_from s before kernels = take (kernel_count s.layer) (drop before kernels)

-- the kernel of step k
abbrev pub kernel_at : (ℕ → Step) → (kernels : List ℤ) → (k : ℕ) → List ℤ
kernel_at steps kernels k = kernel_from (steps k) (weights_before steps k) kernels
