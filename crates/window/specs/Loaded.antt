-- What the loading of a tile or of a row promises: a value becomes a word that represents it modulo m and is at most 2m, a place with no value the word 0.
use Rattle.std.specs.Prelude.{◌≡◌, List, ℕ, ◌+◌, ◌*◌, ◌≤◌, ◌<◌, ℤ, pos, length, get_or}
use Rattle.algebra.specs.Residue.{Represents}
use Rattle.fermat.specs.Field.{modulus, transform_length}
use Rattle.passes.specs.Halving.{word}
use Rattle.passes.specs.Butterfly.{AtMost}
use Rattle.spectrum.specs.Value.{Word}
use Rattle.layer.specs.declared.shape.Layer.{Layer}
use Rattle.window.specs.Window.{window_at, turned_in, weight_at}

-- ys is xs with a word for `value p` at each place p of P
pub record Loaded (m : ℕ) (P : ℕ → Type 0) (value : ℕ → ℤ) (xs ys : List ℕ) : Type 0 where
  pub same_length : length ys ≡ length xs
  pub here : (p : ℕ) → p < length xs → P p → Word m (value p) (get_or ys p 0)
  pub kept : (p : ℕ) → (P p → ⊥) → get_or ys p 0 ≡ get_or xs p 0

-- xs holds the window of a map channel that begins at that row and column
pub record HoldsWindow (l : Layer) (map : List ℤ) (channel row column : ℕ) (xs : List ℕ) : Type 0 where
  pub value : (u v : ℕ) → u < transform_length l.field → v < transform_length l.field
      → Represents (modulus l.field) (window_at l map channel row column u v) (word (transform_length l.field) u v xs)
  pub bound : AtMost (2 * modulus l.field) xs

-- xs holds in its first words `count` weights from the weight `from` on, turned round in CONV, and 0 after them
pub record HoldsWeights (l : Layer) (kernel : List ℤ) (from count : ℕ) (xs : List ℕ) : Type 0 where
  pub value : (i : ℕ) → i < count → Represents (modulus l.field) (get_or kernel (from + turned_in l count i) (pos 0)) (get_or xs i 0)
  pub empty : (i : ℕ) → count ≤ i → get_or xs i 0 ≡ 0
  pub bound : AtMost (2 * modulus l.field) xs

-- xs holds a plane of the kernel in its first K rows of K words, and 0 after them
pub record HoldsKernel (l : Layer) (kernel : List ℤ) (plane : ℕ) (xs : List ℕ) : Type 0 where
  pub value : (a b : ℕ) → a < l.side → b < l.side → Represents (modulus l.field) (weight_at l kernel plane a b) (word l.side a b xs)
  pub empty : (i : ℕ) → l.side * l.side ≤ i → get_or xs i 0 ≡ 0
  pub bound : AtMost (2 * modulus l.field) xs
