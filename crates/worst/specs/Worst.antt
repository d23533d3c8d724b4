-- 02, E13: the map that makes one output equal the greatest load: at each place of the output's window the peak, with the sign of the weight there.
use Rattle.std.specs.Prelude.{List, ℕ, zero, suc, ◌+◌, ◌*◌, ℤ, pos, negsuc, neg_ℤ}
use Rattle.algebra.specs.Greatest.{greatest, first_greatest}
use Rattle.algebra.specs.Planes.{stacked_at}
use Rattle.algebra.specs.Places.{table}
use Rattle.layer.specs.declared.shape.Layer.{Layer}
use Rattle.layer.specs.Shape.{map_count}
use Rattle.layer.specs.Direct.{shifted, plane_of}
use Rattle.load.specs.Load.{load}
use Rattle.worst.specs.declared.output.Output.{Output}
use Rattle.worst.specs.Window.{first_whole, whole_row, whole_column}

-- ---- the map for an output o: channel m, row e, column f of the full output

-- A where the weight is above 0, −A where it is below, 0 where it is 0
unfoldable pub value_for : (peak : ℕ) (weight : ℤ) → ℤ
value_for peak (pos zero) = pos 0
value_for peak (pos (suc n)) = pos peak
value_for peak (negsuc n) = neg_ℤ (pos peak)

-- the weight that meets row i, column j of map channel c, which stands at row i + P − eS, column j + P − fS of its plane; outside the window there is
-- none, which counts as a weight of 0
unfoldable pub weight_met : Layer → List ℤ → Output → (c i j : ℕ) → ℤ
weight_met l kernel o c i j =
    shifted l.side l.side kernel (plane_of l o.channel c) (o.row * l.stride) (i + l.padding) (o.column * l.stride) (j + l.padding)

-- the value at the flat place p of the map
unfoldable pub value_at : Layer → List ℤ → Output → (p : ℕ) → ℤ
value_at l kernel o = stacked_at l.height l.width (λ c i j. value_for l.peak (weight_met l kernel o c i j))

abbrev pub map_for : Layer → List ℤ → Output → List ℤ
map_for l kernel o = table (map_count l) (value_at l kernel o)

-- ---- the output

-- the greatest of the loads of the output channels
abbrev pub greatest_load : Layer → List ℤ → ℕ
greatest_load l kernel = greatest l.outputs (load l kernel)

-- the first output channel with that load
abbrev pub worst_channel : Layer → List ℤ → ℕ
worst_channel l kernel = first_greatest l.outputs (load l kernel)

-- in this channel the first output of the crop whose whole window lies inside the map
abbrev pub worst_output : Layer → List ℤ → Output
worst_output l kernel = record { channel = worst_channel l kernel; row = l.top + whole_row l; column = l.left + whole_column l }

-- and its flat place among the outputs that are kept
abbrev pub worst_place : Layer → List ℤ → ℕ
worst_place l kernel = worst_channel l kernel * (l.rows * l.columns) + first_whole l

abbrev pub worst_map : Layer → List ℤ → List ℤ
worst_map l kernel = map_for l kernel (worst_output l kernel)
