-- 01, "The bench program": what it prints, for every input.
use Rattle.std.specs.Prelude.{Bool, ◌&&◌, not, cond, List, [], ◌∷◌, ◌++◌, ℕ, ◌+◌, leb, ltb, eqb, ℤ, length, take, drop}
use Rattle.algebra.specs.Places.{table}
use Rattle.base.specs.Rules.{outcome}
use Rattle.layer.specs.declared.shape.Layer.{Layer}
use Rattle.layer.specs.Numbers.{layer_of}
use Rattle.layer.specs.Shape.{map_count, kernel_count, output_count, tile_total}
use Rattle.layer.specs.Direct.{direct_at}
use Rattle.checks.specs.Engine.{tile_engine}
use Rattle.checks.specs.Checks.{plan_code, run_code}
use Rattle.words.specs.Words.{words_of, every_word, is_figure, is_value, figures_of, values_of}
use Rattle.lines.specs.Lines.{tiles_word, refused_word, numbered, unreadable, rows_text}

-- ---- the run, in F_4 with its 3N² = 3,072 words of scratch

-- the tile total, then the output row by row
abbrev pub frame : Layer → (map kernel : List ℤ) → List ℕ
frame l map kernel =
    numbered tiles_word (tile_total l) ++ rows_text l.columns (output_count l) (table (output_count l) (direct_at l map kernel))

unfoldable pub ran : Layer → (map kernel : List ℤ) → List ℕ
ran l map kernel =
    let code = run_code tile_engine l map kernel (output_count l) 3072 in outcome code (frame l map kernel) (numbered refused_word code)

-- ---- map and kernel: whether the words after the header are what a layer of that shape asks for

abbrev pub small : Layer → Bool
small l = eqb l.field 4 && leb (map_count l) 1024 && leb (kernel_count l) 512 && leb (output_count l) 1024

abbrev pub body_reads : Layer → List (List ℕ) → Bool
body_reads l body = eqb (length body) (map_count l + kernel_count l) && every_word is_value body

abbrev pub map_of : Layer → List (List ℕ) → List ℤ
map_of l body = values_of (take (map_count l) body)

abbrev pub kernel_of : Layer → List (List ℕ) → List ℤ
kernel_of l body = values_of (drop (map_count l) body)

-- ---- the whole

-- the input is above 16 KiB
abbrev pub is_long : List ℕ → Bool
is_long input = ltb 16384 (length input)

-- the words of the first 16 KiB
abbrev pub input_words : List ℕ → List (List ℕ)
input_words input = words_of (is_long input) (take 16384 input)

-- the first fourteen words are the header
abbrev pub header_reads : List (List ℕ) → Bool
header_reads words = leb 14 (length words) && every_word is_figure (take 14 words)

-- the layer of a header: its fourteen numbers, and no rows or columns added
abbrev pub header_layer : List (List ℕ) → Layer
header_layer words = layer_of (figures_of (take 14 words) ++ (0 ∷ 0 ∷ []))

-- after a header that the planner accepts
abbrev pub body_printed : Layer → (long : Bool) → (body : List (List ℕ)) → List ℕ
body_printed l long body = cond (small l && not long && body_reads l body) (ran l (map_of l body) (kernel_of l body)) unreadable

-- after a header that reads
abbrev pub layer_printed : Layer → (long : Bool) → (body : List (List ℕ)) → List ℕ
layer_printed l long body = outcome (plan_code tile_engine l) (body_printed l long body) (numbered refused_word (plan_code tile_engine l))

unfoldable pub printed : List ℕ → List ℕ
printed input =
    let words = input_words input in
    cond (header_reads words) (layer_printed (header_layer words) (is_long input) (drop 14 words)) unreadable
