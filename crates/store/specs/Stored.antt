-- What storing a finished tile leaves in the output: each place that the tile holds has its word less offset, where offset is 2^(bits − 1). The
-- words are residues with offset added, so a value below 0 is a word below offset.
use Rattle.std.specs.Prelude.{List, ℕ, ◌+◌, ◌-◌, ℤ}
use Rattle.fermat.specs.Field.{transform_length}
use Rattle.passes.specs.Halving.{word}
use Rattle.spectrum.specs.Value.{offset_of, less_offset}
use Rattle.layer.specs.declared.shape.Layer.{Layer}
use Rattle.layer.specs.Shape.{row_in_tile, column_in_tile}

-- the word of output place p among the N by N words of tile t: what the first K − 1 rows and columns hold is no output
abbrev pub word_of : Layer → (t p : ℕ) → List ℕ → ℕ
word_of l t p words = word (transform_length l.field) (l.side - 1 + row_in_tile l t p) (l.side - 1 + column_in_tile l t p) words

-- the value of output place p from the words of tile t
abbrev pub stored_at : Layer → (t : ℕ) → List ℕ → (p : ℕ) → ℤ
stored_at l t words p = less_offset (offset_of l.field) (word_of l t p words)
