-- Two filters joined: the weight of the joined kernel, the joined layer and its kernel. The laws are in `JoinedLaws` and `JoinLaw`.
use Rattle.std.specs.Prelude.{List, ℕ, ◌+◌, ◌*◌, ◌-◌, ◌/◌, ◌%◌, ℤ, ◌*ℤ◌}
use Rattle.algebra.specs.Planes.{cell, stacked, stacked_at}
use Rattle.algebra.specs.Sum.{sum_z}
use Rattle.algebra.specs.Places.{table}
use Rattle.layer.specs.declared.shape.Layer.{Layer}
use Rattle.layer.specs.Shape.{kernel_count, full_height, full_width}
use Rattle.layer.specs.Direct.{shifted, full_at}

-- ---- one weight

-- The weight [m][c][a][b] of the joined kernel: the sum, over the middle channels n and over the pairs of places that add up to (a, b), of the
-- products. (i, j) is the place of the first kernel, (a − i, b − j) that of the second, which counts only where it lies in the kernel.
-- C, N: map channels and middle channels; K, L: the sides of the first and of the second kernel.
unfoldable pub joined_weight : (C N K L : ℕ) (first second : List ℤ) (m c a b : ℕ) → ℤ
joined_weight C N K L first second m c a b =
    sum_z N (λ n. sum_z K (λ i. sum_z K (λ j. cell K K first (n * C + c) i j *ℤ shifted L L second (m * N + n) i a j b)))

-- ---- the joined layer and its kernel

-- the side K + L − 1, the output channels and the crop of the second layer, all else of the first
abbrev pub joined_layer : Layer → Layer → Layer
joined_layer first second = record {
  kind = first.kind;
  field = first.field;
  inputs = first.inputs;
  outputs = second.outputs;
  height = first.height;
  width = first.width;
  side = first.side + second.side - 1;
  stride = first.stride;
  padding = first.padding;
  peak = first.peak;
  top = second.top;
  left = second.left;
  rows = second.rows;
  columns = second.columns;
  below = first.below;
  beside = first.beside;
}

-- the weight at the flat place p: its plane is mC + c
unfoldable pub joined_at : (first : Layer) (firstKernel : List ℤ) (second : Layer) (secondKernel : List ℤ) → ℕ → ℤ
joined_at first firstKernel second secondKernel =
    let side = (joined_layer first second).side in
    stacked_at side side (λ k a b.
    joined_weight first.inputs first.outputs first.side second.side firstKernel secondKernel (k / first.inputs) (k % first.inputs) a b)

abbrev pub joined_kernel : (first : Layer) (firstKernel : List ℤ) (second : Layer) (secondKernel : List ℤ) → List ℤ
joined_kernel first firstKernel second secondKernel =
    table (kernel_count (joined_layer first second)) (joined_at first firstKernel second secondKernel)

-- ---- the outputs of a layer with no crop

abbrev pub full_output : Layer → (map kernel : List ℤ) → List ℤ
full_output l map kernel = stacked l.outputs (full_height l) (full_width l) (full_at l map kernel)
