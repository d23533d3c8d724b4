-- 01, "The two product sums", and 02, E7: a CONV layer and the TCONV layer that takes its output's shape back to its map's, and the two sums.
use Rattle.std.specs.Prelude.{◌≡◌, List, ℕ, ◌+◌, ◌*◌, ◌-◌, ◌%◌, ℤ}
use Rattle.algebra.specs.Planes.{cell}
use Rattle.layer.specs.declared.shape.Layer.{Layer}
use Rattle.layer.specs.Shape.{full_height, full_width}
use Rattle.layer.specs.Direct.{product_sum}

-- top and left are 0, and h and w are the full output size, with what is added
pub record NotCropped (l : Layer) : Type 0 where
  pub top : l.top ≡ 0
  pub left : l.left ≡ 0
  pub rows : l.rows ≡ full_height l
  pub columns : l.columns ≡ full_width l

-- both have the same K, S and P; TCONV's C and M are CONV's M and C, its H and W are CONV's E and F. Field and peak are free
pub record Matched (conv tconv : Layer) : Type 0 where
  pub conv_kind : conv.kind ≡ 0
  pub tconv_kind : tconv.kind ≡ 1
  pub side : tconv.side ≡ conv.side
  pub stride : tconv.stride ≡ conv.stride
  pub padding : tconv.padding ≡ conv.padding
  pub inputs : tconv.inputs ≡ conv.outputs
  pub outputs : tconv.outputs ≡ conv.inputs
  pub height : tconv.height ≡ full_height conv
  pub width : tconv.width ≡ full_width conv
  pub conv_whole : NotCropped conv
  pub tconv_whole : NotCropped tconv

-- what S leaves of CONV's H + 2P − K, or of its W + 2P − K
abbrev pub remainder : (conv : Layer) (extent : ℕ) → ℕ
remainder conv extent = (extent + 2 * conv.padding - conv.side) % conv.stride

-- E7: TCONV adds as many rows and columns as S leaves
pub record Paired (conv tconv : Layer) : Type 0 where
  pub matched : Matched conv tconv
  pub rows_added : tconv.below ≡ remainder conv conv.height
  pub columns_added : tconv.beside ≡ remainder conv conv.width

-- 01's demand 3: the stride divides, so that it leaves nothing, and TCONV adds nothing
pub record EvenlyPaired (conv tconv : Layer) : Type 0 where
  pub matched : Matched conv tconv
  pub rows_divided : remainder conv conv.height ≡ 0
  pub columns_divided : remainder conv conv.width ≡ 0
  pub no_rows_added : tconv.below ≡ 0
  pub no_columns_added : tconv.beside ≡ 0

-- x is the CONV map, y the TCONV map, u and v are the outputs: the sum over m, e, f of u [m][e][f] times y [m][e][f] equals the sum over
-- c, i, j of x [c][i][j] times v [c][i][j]
abbrev pub SumsAgree : (conv : Layer) → (x y u v : List ℤ) → Type 0
SumsAgree conv x y u v =
    product_sum conv.outputs (full_height conv) (full_width conv)
    (cell (full_height conv) (full_width conv) u) (cell (full_height conv) (full_width conv) y)
    ≡ product_sum conv.inputs conv.height conv.width (cell conv.height conv.width x) (cell conv.height conv.width v)
