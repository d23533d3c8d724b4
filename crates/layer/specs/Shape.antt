-- 01, "A layer" and "Field and tile", and 02, E7: the sizes of a layer's output, and its tiles.
use Rattle.std.specs.Prelude.{Bool, cond, ℕ, ◌+◌, ◌*◌, ◌-◌, ◌/◌, ◌%◌, eqb}
use Rattle.base.specs.Number.{ceiling_div}
use Rattle.fermat.specs.Field.{transform_length}
use Rattle.layer.specs.declared.shape.Layer.{Layer}
use Rattle.layer.specs.declared.shape.Kind.{Kind}
use Rattle.layer.specs.declared.shape.Kind.TheVariants.{Conv, Tconv}

-- kind 0 is CONV, 1 is TCONV
abbrev pub is_conv : Layer → Bool
is_conv l = eqb l.kind 0

-- by that test: every number but 0 counts as TCONV
abbrev pub kind_of : Layer → Kind
kind_of l = cond (is_conv l) Conv Tconv

-- ---- counts

-- map values, C·H·W
abbrev pub map_count : Layer → ℕ
map_count l = l.inputs * l.height * l.width

-- weights, M·C·K²
abbrev pub kernel_count : Layer → ℕ
kernel_count l = l.outputs * l.inputs * (l.side * l.side)

-- outputs that are kept, M·h·w
abbrev pub output_count : Layer → ℕ
output_count l = l.outputs * l.rows * l.columns

-- ---- the full output

-- CONV: (H + 2P − K) / S, rounded down, plus 1
unfoldable pub conv_size : (extent side stride padding : ℕ) → ℕ
conv_size extent side stride padding = (extent + 2 * padding - side) / stride + 1

-- TCONV: (H − 1)S + K − 2P and the rows that are added, 0 where that is negative
unfoldable pub tconv_size : (extent side stride padding added : ℕ) → ℕ
tconv_size extent side stride padding added = (extent - 1) * stride + side + added - 2 * padding

-- by kind; nothing is added in CONV
abbrev pub full_size : Layer → (extent added : ℕ) → ℕ
full_size l extent added =
    cond (is_conv l) (conv_size extent l.side l.stride l.padding) (tconv_size extent l.side l.stride l.padding added)

-- E and F
abbrev pub full_height : Layer → ℕ
full_height l = full_size l l.height l.below

abbrev pub full_width : Layer → ℕ
full_width l = full_size l l.width l.beside

-- ---- tiles

-- 3N² words of scratch
abbrev pub scratch_words : Layer → ℕ
scratch_words l = 3 * (transform_length l.field * transform_length l.field)

-- L = N − K + 1: a tile holds L by L places of the stride-1 grid
abbrev pub tile_side : Layer → ℕ
tile_side l = transform_length l.field - l.side + 1

-- the stride-1 grid rows from one wanted row to the next: S in CONV, 1 in TCONV
abbrev pub grid_step : Layer → ℕ
grid_step l = cond (is_conv l) l.stride 1

-- R and Q: `count` wanted rows or columns span (count − 1)S + 1 of the grid in CONV, count in TCONV
abbrev pub span : Layer → ℕ → ℕ
span l count = cond (is_conv l) ((count - 1) * l.stride + 1) count

abbrev pub tile_rows : Layer → ℕ
tile_rows l = ceiling_div (span l l.rows) (tile_side l)

abbrev pub tile_columns : Layer → ℕ
tile_columns l = ceiling_div (span l l.columns) (tile_side l)

-- M × ⌈R/L⌉ × ⌈Q/L⌉
unfoldable pub tile_total : Layer → ℕ
tile_total l = l.outputs * tile_rows l * tile_columns l

-- ---- output places, channel by channel and row by row

-- the channel, row and column of the flat output place p
abbrev pub channel_of : Layer → ℕ → ℕ
channel_of l p = p / (l.rows * l.columns)

abbrev pub row_of : Layer → ℕ → ℕ
row_of l p = p % (l.rows * l.columns) / l.columns

abbrev pub column_of : Layer → ℕ → ℕ
column_of l p = p % (l.rows * l.columns) % l.columns

-- the tile that holds place p, by output channel, tile row, tile column, counted from the crop's first output
unfoldable pub tile_of : Layer → ℕ → ℕ
tile_of l p =
    (channel_of l p * tile_rows l + row_of l p * grid_step l / tile_side l) * tile_columns l + column_of l p * grid_step l / tile_side l

-- the output channel of tile t, and the row and the column of tiles that it stands in
abbrev pub tile_channel : Layer → ℕ → ℕ
tile_channel l t = t / tile_columns l / tile_rows l

abbrev pub tile_row : Layer → ℕ → ℕ
tile_row l t = t / tile_columns l % tile_rows l

abbrev pub tile_column : Layer → ℕ → ℕ
tile_column l t = t % tile_columns l

-- the row and the column, counted from the tile's first, of the flat output place p that tile t holds
abbrev pub row_in_tile : Layer → (t p : ℕ) → ℕ
row_in_tile l t p = row_of l p * grid_step l - tile_row l t * tile_side l

abbrev pub column_in_tile : Layer → (t p : ℕ) → ℕ
column_in_tile l t p = column_of l p * grid_step l - tile_column l t * tile_side l
