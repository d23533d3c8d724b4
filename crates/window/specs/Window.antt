-- The window of a map channel and the kernel that a tile or a strip multiplies. Window place (u, v) shows the stride-1 grid from the part's first
-- row and column on; a map value stands where the grid coordinate less the edge is a multiple of the spacing. So one pipeline serves both kinds.
use Rattle.std.specs.Prelude.{cond, List, ℕ, ◌+◌, ◌-◌, ℤ, ◌*ℤ◌}
use Rattle.algebra.specs.Planes.{cell}
use Rattle.algebra.specs.Sum.{sum_z}
use Rattle.layer.specs.Windows.{spaced}
use Rattle.layer.specs.Direct.{plane_of}
use Rattle.layer.specs.declared.shape.Layer.{Layer}
use Rattle.layer.specs.Shape.{is_conv}

-- grid places from one map value to the next: 1 in CONV, S in TCONV
abbrev pub spacing : Layer → ℕ
spacing l = cond (is_conv l) 1 l.stride

-- grid places before the first map value: P in CONV, K − 1 − P in TCONV
abbrev pub edge : Layer → ℕ
edge l = cond (is_conv l) l.padding (l.side - 1 - l.padding)

-- what the window of map channel c that begins at that row and column shows at place (u, v)
abbrev pub window_at : Layer → List ℤ → (c row column u v : ℕ) → ℤ
window_at l map c row column u v = spaced l.height l.width (spacing l) map c (edge l) (row + u) (edge l) (column + v)

-- an index below `count`: turned round in CONV, as it is in TCONV
abbrev pub turned_in : Layer → (count i : ℕ) → ℕ
turned_in l count i = cond (is_conv l) (count - 1 - i) i

-- a row or a column of the kernel
abbrev pub turned_index : Layer → ℕ → ℕ
turned_index l a = turned_in l l.side a

-- the weight at row a, column b of a plane of the kernel, for a below K and b below K
abbrev pub weight_at : Layer → List ℤ → (plane a b : ℕ) → ℤ
weight_at l kernel plane a b = cell l.side l.side kernel plane (turned_index l a) (turned_index l b)

-- what map channel c adds at place (i, j) of a window of output channel m, for i and j from K − 1 on: each weight times the value that it meets
unfoldable pub channel_sum : Layer → (map kernel : List ℤ) → (m row column c i j : ℕ) → ℤ
channel_sum l map kernel m row column c i j =
    sum_z l.side (λ a. sum_z l.side (λ b. weight_at l kernel (plane_of l m c) a b *ℤ window_at l map c row column (i - a) (j - b)))
