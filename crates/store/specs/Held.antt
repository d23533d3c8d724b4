-- The output rows and columns that a part of a line holds, and what is stored of a row and of all rows of a tile. The contracts of the
-- functions that store rest on this.
use Rattle.std.specs.Prelude.{◌≡◌, List, ℕ, ◌+◌, ◌*◌, ◌-◌, ◌/◌, ◌%◌, ◌<◌, ◌≤◌, ℤ, pos, length, get_or}
use Rattle.algebra.specs.Places.{Written, Run}
use Rattle.fermat.specs.Field.{transform_length}
use Rattle.passes.specs.Halving.{word}
use Rattle.spectrum.specs.Value.{offset_of, less_offset, Storable}
use Rattle.layer.specs.declared.shape.Layer.{Layer}
use Rattle.layer.specs.Shape.{grid_step}
use Rattle.store.specs.declared.Held.{Held}

-- row or column e of the output lies in part t of a line of parts of `side` grid places
abbrev pub OnPart : Layer → (side t e : ℕ) → Type 0
OnPart l side t e = (t * side ≤ e * grid_step l) × (e * grid_step l < t * side + side)

-- h tells which of `count` rows or columns lie in part t, and where their words are
pub record HeldBy (l : Layer) (side t count : ℕ) (h : Held) : Type 0 where
  pub some : 0 < h.count
  pub short : h.first + h.count ≤ count
  pub inside : (e : ℕ) → Run h.first h.count e → OnPart l side t e
  pub all : (e : ℕ) → e < count → OnPart l side t e → Run h.first h.count e
  pub word : l.side - 1 + (h.first * grid_step l - t * side) ≡ h.word

-- ---- `count` places of a row, from `at` on: the first one's word is at `from`, each further one's is `step` after the one before

abbrev pub RowStorable : (offset from step count : ℕ) → List ℕ → Type 0
RowStorable offset from step count words =
    (i : ℕ) → i < count → (from + i * step < length words) × Storable offset (get_or words (from + i * step) 0)

abbrev pub RowStored : (offset at from step count : ℕ) → List ℕ → (xs ys : List ℤ) → Type 0
RowStored offset at from step count words = Written (pos 0) (Run at count) (λ p. less_offset offset (get_or words (from + (p - at) * step) 0))

-- ---- the places of a tile in the rows that it holds, counted from its channel's first place

-- the words of the last row or column held, and so of all, are among the N by N
abbrev pub WithWords : Layer → Held → Type 0
WithWords l h = h.word + (h.count - 1) * grid_step l < transform_length l.field

-- the word of row r and column f, counted from the first of each that is held
abbrev pub held_word : Layer → (rows columns : Held) → (r f : ℕ) → List ℕ → ℕ
held_word l rows columns r f words = word (transform_length l.field) (rows.word + r * grid_step l) (columns.word + f * grid_step l) words

abbrev pub RowsStorable : Layer → (rows columns : Held) → List ℕ → Type 0
RowsStorable l rows columns words =
    (r f : ℕ) → r < rows.count → f < columns.count → Storable (offset_of l.field) (held_word l rows columns r f words)

-- place p of the channel lies in one of the first `count` rows held and in a column held
abbrev pub InRows : Layer → (rows columns : Held) → (count p : ℕ) → Type 0
InRows l rows columns count p = Run rows.first count (p / l.columns) × Run columns.first columns.count (p % l.columns)

abbrev pub RowsStored : Layer → (rows columns : Held) → (count : ℕ) → List ℕ → (xs ys : List ℤ) → Type 0
RowsStored l rows columns count words =
    Written (pos 0) (InRows l rows columns count)
    (λ p. less_offset (offset_of l.field) (held_word l rows columns (p / l.columns - rows.first) (p % l.columns - columns.first) words))
