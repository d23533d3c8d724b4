-- What storing a finished strip leaves in the output: each place that the strip holds has its word less offset.
use Rattle.std.specs.Prelude.{List, ℕ, ◌+◌, ◌-◌, ℤ, get_or}
use Rattle.spectrum.specs.Value.{offset_of, less_offset}
use Rattle.layer.specs.declared.shape.Layer.{Layer}
use Rattle.layer.specs.Strip.{place_in_strip}

-- the word of output place p among the 256 words of strip t: what the first K − 1 hold is no output
abbrev pub strip_word : Layer → (t p : ℕ) → List ℕ → ℕ
strip_word l t p words = get_or words (l.side - 1 + place_in_strip l t p) 0

-- the value of output place p from the words of strip t
abbrev pub strip_stored_at : Layer → (t : ℕ) → List ℕ → (p : ℕ) → ℤ
strip_stored_at l t words p = less_offset (offset_of l.field) (strip_word l t p words)
