-- What the rules 26 give of two layers: each is a filter with figures in range, and the channels that come out of the first go into the second.
-- `Follows` is what the theorem asks of their maps besides.
use Rattle.std.specs.Prelude.{◌≡◌, ℕ, ◌≤◌}
use Rattle.layer.specs.declared.shape.Layer.{Layer}
use Rattle.layer.specs.Shape.{kernel_count, full_size}

-- ---- one layer

-- CONV with S 1 and P 0
pub record Filter (l : Layer) : Type 0 where
  pub conv_kind : l.kind ≡ 0
  pub stride_one : l.stride ≡ 1
  pub unpadded : l.padding ≡ 0
  pub side_low : 1 ≤ l.side

-- what its seven rules give
pub record Kept (l : Layer) (weights : ℕ) : Type 0 where
  pub filter : Filter l
  pub inputs_low : 1 ≤ l.inputs
  pub inputs_high : l.inputs ≤ 64
  pub outputs_low : 1 ≤ l.outputs
  pub outputs_high : l.outputs ≤ 64
  pub side_high : l.side ≤ 11
  pub weights_are : weights ≡ kernel_count l

-- ---- two layers

-- the channels that come out of the first go into the second
pub record Pair (first second : Layer) : Type 0 where
  pub first_filter : Filter first
  pub second_filter : Filter second
  pub channels : first.outputs ≡ second.inputs

-- what the code asks of both: all that 26 says of them but for the length of `joined`
pub record Joinable (first : Layer) (firstWeights : ℕ) (second : Layer) (secondWeights : ℕ) : Type 0 where
  pub first_kept : Kept first firstWeights
  pub second_kept : Kept second secondWeights
  pub channels : first.outputs ≡ second.inputs

-- along one side: the second's map is as long as the first's full output, and each kernel fits in its map, as rule 8 asks
pub record Along (first second : Layer) (size added middle : ℕ) : Type 0 where
  pub is : middle ≡ full_size first size added
  pub first_fits : first.side ≤ size
  pub second_fits : second.side ≤ middle

pub record Follows (first second : Layer) : Type 0 where
  pub down : Along first second first.height first.below second.height
  pub across : Along first second first.width first.beside second.width
