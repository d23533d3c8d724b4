-- 02, E5: the strips of a layer. A strip is one output row's next L places on the stride-1 grid, where L is 257 − K: the places that a row of
-- 256 words gives. Strips are counted by output channel, row and place along the row.
use Rattle.std.specs.Prelude.{ℕ, ◌+◌, ◌*◌, ◌-◌, ◌/◌, ◌%◌}
use Rattle.base.specs.Number.{ceiling_div}
use Rattle.layer.specs.declared.shape.Layer.{Layer}
use Rattle.layer.specs.Shape.{grid_step, span, channel_of, row_of, column_of}

-- three rows of scratch
abbrev pub strip_words : ℕ
strip_words = 768

-- L
abbrev pub strip_length : Layer → ℕ
strip_length l = 257 - l.side

-- ⌈Q/L⌉, the strips of one output row
abbrev pub strip_columns : Layer → ℕ
strip_columns l = ceiling_div (span l l.columns) (strip_length l)

-- M × h × ⌈Q/L⌉
unfoldable pub strip_total : Layer → ℕ
strip_total l = l.outputs * l.rows * strip_columns l

-- the strip that holds the flat output place p
unfoldable pub strip_of : Layer → ℕ → ℕ
strip_of l p = (channel_of l p * l.rows + row_of l p) * strip_columns l + column_of l p * grid_step l / strip_length l

-- the output channel of strip t, its output row, and its column among the strips of that row
abbrev pub strip_channel : Layer → ℕ → ℕ
strip_channel l t = t / strip_columns l / l.rows

abbrev pub strip_row : Layer → ℕ → ℕ
strip_row l t = t / strip_columns l % l.rows

abbrev pub strip_column : Layer → ℕ → ℕ
strip_column l t = t % strip_columns l

-- the place, counted from the strip's first on the grid, of the flat output place p that strip t holds
abbrev pub place_in_strip : Layer → (t p : ℕ) → ℕ
place_in_strip l t p = column_of l p * grid_step l - strip_column l t * strip_length l
