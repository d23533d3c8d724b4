-- 02, E13, in the request's words: what is to hold of the map that an accepted call leaves. The theorem of a call is
-- `worst_accepted` in `AnswerLaws`.
use Rattle.std.specs.Prelude.{◌≡◌, true, List, ℕ, ◌+◌, ◌*◌, ◌<◌, ◌≤◌, ℤ, pos, length}
use Rattle.layer.specs.declared.shape.Layer.{Layer}
use Rattle.layer.specs.Shape.{map_count, output_count}
use Rattle.layer.specs.Direct.{direct_at}
use Rattle.load.specs.Load.{load, within_peak}
use Rattle.worst.specs.Window.{Whole, whole_row, whole_column}
use Rattle.worst.specs.Worst.{greatest_load, worst_channel, worst_place}

pub record Reached (l : Layer) (kernel map : List ℤ) : Type 0 where
  -- the map has C·H·W values and is within the peak
  pub size : length map ≡ map_count l
  pub bounded : within_peak l.peak map ≡ true
  -- the output is one of the crop, and equals the greatest load
  pub kept : worst_place l kernel < output_count l
  pub equals : direct_at l map kernel (worst_place l kernel) ≡ pos (greatest_load l kernel)
  -- its channel has that load; no channel has more, and no earlier one has as much
  pub channel_load : load l kernel (worst_channel l kernel) ≡ greatest_load l kernel
  pub most : (m : ℕ) → m < l.outputs → load l kernel m ≤ greatest_load l kernel
  pub channel_first : (m : ℕ) → m < worst_channel l kernel → load l kernel m < greatest_load l kernel
  -- its window lies whole inside the map, and no earlier one in output order does
  pub window : Whole l (whole_row l) (whole_column l)
  pub window_first : (i j : ℕ) → Whole l i j → whole_row l * l.columns + whole_column l ≤ i * l.columns + j
