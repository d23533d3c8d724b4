-- What the work on the rows of a strip promises. Scratch is three parts of 256 words: the sum of products, a row of the kernel, a row of the grid.
-- A strip's output row is row K − 1 of its windows, so that row a of the kernel, turned round in CONV, meets the window's row K − 1 − a.
use Rattle.std.specs.Prelude.{◌≡◌, List, ℕ, ◌+◌, ◌*◌, ◌-◌, ◌≤◌, ◌<◌, ℤ, ◌+ℤ◌, ◌*ℤ◌, length, get_or}
use Rattle.algebra.specs.Residue.{Represents}
use Rattle.algebra.specs.Sum.{sum_z}
use Rattle.algebra.specs.Places.{Changed}
use Rattle.fermat.specs.Field.{modulus}
use Rattle.spectrum.specs.Product.{factor_most, product_most, settled_most}
use Rattle.row.specs.Row.{RowSpectrum}
use Rattle.layer.specs.Planned.{Planned}
use Rattle.layer.specs.Direct.{plane_of}
use Rattle.layer.specs.Strip.{strip_words}
use Rattle.layer.specs.declared.shape.Layer.{Layer}
use Rattle.window.specs.declared.shown.Shown.{Shown}
use Rattle.window.specs.Shows.{line_at}
use Rattle.window.specs.Window.{window_at, weight_at, channel_sum}
use Rattle.strip.specs.declared.origin.StripOrigin.{StripOrigin}

-- ---- the two rows

-- the 256 words of ys are the transform of words for row a of a plane of the kernel
pub record WeightsReady (l : Layer) (kernel : List ℤ) (plane a : ℕ) (ys : List ℕ) : Type 0 where
  pub words : ℕ → ℕ
  pub value : (b : ℕ) → b < l.side → Represents (modulus l.field) (weight_at l kernel plane a b) (words b)
  pub empty : (b : ℕ) → l.side ≤ b → words b ≡ 0
  pub spectrum : RowSpectrum words 0 ys
  pub bound : (i : ℕ) → i < 256 → get_or ys i 0 ≤ factor_most 4

-- they are the transform of words for what is shown of a map channel in the grid row `line`
pub record LineReady (l : Layer) (s : Shown) (map : List ℤ) (channel line : ℕ) (ys : List ℕ) : Type 0 where
  pub words : ℕ → ℕ
  pub value : (v : ℕ) → v < 256 → Represents (modulus l.field) (line_at l s map channel line 0 v) (words v)
  pub spectrum : RowSpectrum words 0 ys
  pub bound : (i : ℕ) → i < 256 → get_or ys i 0 ≤ factor_most 4

-- ---- the sum

-- the lengths of what is lent, to a layer of field 4
pub record StripLengths (l : Layer) (map kernel : List ℤ) (scratch : List ℕ) : Type 0 where
  pub plan : Planned l
  pub field : l.field ≡ 4
  pub map-length : length map ≡ l.inputs * l.height * l.width
  pub kernel_length : length kernel ≡ l.outputs * l.inputs * (l.side * l.side)
  pub scratch_low : strip_words ≤ length scratch

-- what row a of the kernel adds at place j of the strip's words, for j from K − 1 on
unfoldable pub row_sum : Layer → (map kernel : List ℤ) → (m row column c a j : ℕ) → ℤ
row_sum l map kernel m row column c a j =
    sum_z l.side (λ b. weight_at l kernel (plane_of l m c) a b *ℤ window_at l map c row column (l.side - 1 - a) (j - b))

module _ (l : Layer) (map kernel : List ℤ) (s : StripOrigin) where
  -- the sum over the first c map channels, and over the first a kernel rows of map channel c
  abbrev pub sum_up_to : (c a j : ℕ) → ℤ
  sum_up_to c a j =
      sum_z c (λ k. channel_sum l map kernel s.channel s.row s.column k (l.side - 1) j)
      +ℤ sum_z a (λ k. row_sum l map kernel s.channel s.row s.column c k j)

  -- the sum of products in ys is the transform of words for that sum, and not large; words beyond the 768 are those of xs
  pub record StripAdded (c a : ℕ) (xs ys : List ℕ) : Type 0 where
    pub sum : ℕ → ℕ
    pub value : (j : ℕ) → l.side - 1 ≤ j → j < 256 → Represents (modulus l.field) (sum_up_to c a j) (sum j)
    pub spectrum : RowSpectrum sum 0 ys
    pub bound : (i : ℕ) → i < 256 → get_or ys i 0 ≤ settled_most 4 + a * product_most 4
    pub changed : Changed 0 0 strip_words xs ys

  -- ys has row a of map channel c added to the sum before, which is that of xs
  abbrev pub AddsRow : (c a : ℕ) (xs ys : List ℕ) → Type 0
  AddsRow c a xs ys = (first : List ℕ) → StripAdded c a first xs → StripAdded c (a + 1) first ys

  -- ys has map channel c added
  abbrev pub AddsChannel : (c : ℕ) (xs ys : List ℕ) → Type 0
  AddsChannel c xs ys = (first : List ℕ) → StripAdded c 0 first xs → StripAdded (c + 1) 0 first ys
