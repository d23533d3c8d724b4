-- The weights of the layers before a step: none before the first, those of one layer more, of the layers after the first ones, and of equal layers; a
-- step by the numbers of its row; and a layer's kernel as the part of the kernels from its first weight up to the next layer's. It rests on the laws of
-- sums.
use Rattle.std.specs.Prelude.{◌≡◌, List, ℕ, ◌+◌, ◌-◌, ◌<◌, ℤ, take, drop}
use Rattle.std.proofs.Common.{ap, ap₂, arith}
use Rattle.std.proofs.Math.Numerals.{add-one}
use Rattle.algebra.specs.Places.{table}
use Rattle.algebra.specs.PlacesLaws.{table_same}
use Rattle.algebra.specs.SumLaws.{naturals, sum_none, sum_last, sum_split, sum_cong}
use Rattle.layer.specs.Numbers.{layer_of}
use Rattle.layer.specs.Shape.{kernel_count}
use Rattle.steps.specs.declared.step.Step.{Step}
use Rattle.steps.specs.Steps.{number_at, step_at, weights_before, kernel_from}

-- ---- weights

module _ (steps : ℕ → Step) where
  pub weights_none : weights_before steps 0 ≡ 0
  unfolding weights_before
  weights_none = sum_none (λ i. kernel_count (steps i).layer)

  pub weights_next : (k : ℕ) → weights_before steps (k + 1) ≡ weights_before steps k + kernel_count (steps k).layer
  unfolding weights_before
  weights_next k = rw add-one (sum_last k (λ i. kernel_count (steps i).layer))

  -- those of the layers after the first m
  pub weights_after : (m n : ℕ) → weights_before steps (m + n) ≡ weights_before steps m + weights_before (λ i. steps (m + i)) n
  unfolding weights_before
  weights_after m n = sum_split naturals m n (λ i. kernel_count (steps i).layer)

-- they depend on those layers alone
pub weights_same : (steps other : ℕ → Step) (k : ℕ) → ((i : ℕ) → i < k → steps i ≡ other i) → weights_before steps k ≡ weights_before other k
unfolding weights_before
weights_same steps other k same = sum_cong naturals k _ _ (λ i l. ap (λ (s : Step). kernel_count s.layer) (same i l))

-- ---- rows and kernels

-- a step depends on the numbers of its row alone
pub step_same : (numbers other : List ℕ) (k : ℕ) → ((i : ℕ) → i < 18 → number_at numbers k i ≡ number_at other k i) → step_at numbers k ≡ step_at other k
unfolding step_at
step_same numbers other k same =
    let layers : table 16 (number_at numbers k) ≡ table 16 (number_at other k) = table_same 16 (λ i l. same i (omega arith)) in
    let made : ℕ → ℕ → Step = λ shift bound. record { layer = layer_of (table 16 (number_at other k)); shift = shift; bound = bound } in
    rw layers (ap₂ made (same 16 (omega arith)) (same 17 (omega arith)))

-- the part of the kernels from a layer's first weight on is its kernel
pub kernel_part : (s : Step) (kernels : List ℤ) (from count : ℕ) → count ≡ kernel_count s.layer
    → take (from + count - from) (drop from kernels) ≡ kernel_from s from kernels
kernel_part s kernels from count e =
    let size : from + count - from ≡ kernel_count s.layer = omega arith in
    ap (λ (n : ℕ). take n (drop from kernels)) size
