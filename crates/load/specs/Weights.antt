-- What the code of the load check states besides the load: sums of the sizes of a run of weights, of a group's weights in a row and in a plane,
-- and what it asks of a group and of a kernel.
use Rattle.std.specs.Prelude.{◌≡◌, cond, List, ℕ, ◌+◌, ◌*◌, ◌%◌, ◌≤◌, ◌<◌, eqb, ℤ, pos, nat_abs, length, get_or}
use Rattle.algebra.specs.Sum.{sum}
use Rattle.layer.specs.declared.shape.Layer.{Layer}
use Rattle.layer.specs.Shape.{kernel_count}
use Rattle.load.specs.declared.groups.Group.{Group}

-- the sum of the sizes of the values of a run
unfoldable pub size_sum : List ℤ → ℕ
size_sum run = sum (length run) (λ i. nat_abs (get_or run i (pos 0)))

-- the sum of f q, f (q + S), f (q + 2S), .. of the numbers below n
unfoldable pub apart : (S q n : ℕ) → (ℕ → ℕ) → ℕ
apart S q n f = sum n (λ i. cond (eqb (i % S) q) (f i) 0)

-- the sum of the sizes of a group's weights in a plane of K by K
unfoldable pub group_sum : (K : ℕ) → List ℤ → Group → ℕ
group_sum K plane g = apart g.step g.row K (λ a. apart g.step g.column K (λ b. nat_abs (get_or plane (a * K + b) (pos 0))))

-- both remainders are below the step, which is 1 to 4
pub record IsGroup (g : Group) : Type 0 where
  pub step_most : g.step ≤ 4
  pub row_below : g.row < g.step
  pub column_below : g.column < g.step

-- the kernel has all weights of the layer, and no load is beyond 64 bits: given by rules 3, 5, 6, 11 and 14
pub record Weighted (l : Layer) (kernel : List ℤ) : Type 0 where
  pub inputs_most : l.inputs ≤ 64
  pub outputs_most : l.outputs ≤ 64
  pub side_most : l.side ≤ 11
  pub stride_least : 1 ≤ l.stride
  pub stride_most : l.stride ≤ 4
  pub peak_most : l.peak ≤ 32767
  pub weights : length kernel ≡ kernel_count l
