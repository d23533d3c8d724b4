-- 02, E13: the cropped outputs whose whole K by K window lies inside the map. The laws are in `WindowLaws`.
use Rattle.std.specs.Prelude.{◌≡◌, Bool, true, ◌&&◌, ℕ, ◌+◌, ◌*◌, ◌/◌, ◌%◌, ◌<◌, ltb}
use Rattle.algebra.specs.Every.{every}
use Rattle.algebra.specs.First.{first_where}
use Rattle.layer.specs.declared.shape.Layer.{Layer}
use Rattle.layer.specs.Direct.{within}

-- ---- the windows

-- rows, where `extent` is H, or columns, where it is W: the window of row e of the full output lies inside the map, that is each of its K rows,
-- eS + a − P, is one of the map's
unfoldable pub inside_at : Layer → (extent e : ℕ) → Bool
inside_at l extent e = every l.side (λ a. within l.padding extent (e * l.stride + a))

-- the whole window of row i, column j of the crop lies inside the map
abbrev pub whole_at : Layer → (i j : ℕ) → Bool
whole_at l i j = inside_at l l.height (l.top + i) && inside_at l l.width (l.left + j)

-- the first place of the crop, row by row, with such a window; h·w where there is none
unfoldable pub first_whole : Layer → ℕ
first_whole l = first_where (l.rows * l.columns) (λ p. whole_at l (p / l.columns) (p % l.columns))

-- there is one
unfoldable pub has_whole : Layer → Bool
has_whole l = ltb (first_whole l) (l.rows * l.columns)

-- its row and its column
abbrev pub whole_row : Layer → ℕ
whole_row l = first_whole l / l.columns

abbrev pub whole_column : Layer → ℕ
whole_column l = first_whole l % l.columns

-- ---- in the request's words

-- row i, column j of the crop is one of those kept, and its whole window lies inside the map
pub record Whole (l : Layer) (i j : ℕ) : Type 0 where
  pub row_kept : i < l.rows
  pub column_kept : j < l.columns
  pub inside : whole_at l i j ≡ true

-- the layer is CONV, and some cropped output's whole window lies inside the map
pub record Windowed (l : Layer) : Type 0 where
  pub conv_kind : l.kind ≡ 0
  pub row : ℕ
  pub column : ℕ
  pub whole : Whole l row column

-- ---- one direction alone, in which the code looks for it

-- the first of the `count` rows that are kept, from row `start` of the full output on, whose window lies inside the map; `count` where none does
unfoldable pub first_inside : Layer → (extent start count : ℕ) → ℕ
first_inside l extent start count = first_where count (λ i. inside_at l extent (start + i))
