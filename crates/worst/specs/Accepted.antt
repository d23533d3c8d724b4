-- What the rules of `worst_map` give of a layer and its kernel, and what the code asks of a crop in one direction and of the output that a map is
-- made for.
use Rattle.std.specs.Prelude.{◌≡◌, true, List, ℕ, ◌+◌, ◌<◌, ◌≤◌, ℤ}
use Rattle.layer.specs.declared.shape.Layer.{Layer}
use Rattle.layer.specs.Shape.{full_height, full_width}
use Rattle.layer.specs.Planned.{InRange, Planned}
use Rattle.load.specs.Weights.{Weighted}
use Rattle.worst.specs.declared.output.Output.{Output}
use Rattle.worst.specs.Window.{has_whole}

pub record Accepted (l : Layer) (kernel : List ℤ) : Type 0 where
  pub plan : Planned l
  pub weights : Weighted l kernel
  pub conv_kind : l.kind ≡ 0
  pub whole : has_whole l ≡ true

-- the output is one of the full output
pub record MadeFor (l : Layer) (kernel : List ℤ) (o : Output) : Type 0 where
  pub accepted : Accepted l kernel
  pub channel_in : o.channel < l.outputs
  pub row_in : o.row < full_height l
  pub column_in : o.column < full_width l

-- of the rows: H, the crop's top and its h; of the columns: W, left and w. No full output has more than 2,058 rows or columns
pub record CropInRange (l : Layer) (extent start count : ℕ) : Type 0 where
  pub shape : InRange l
  pub extent_high : extent ≤ 512
  pub end_high : start + count ≤ 2058
