-- A row that is loaded, and then transformed: what `row_spectrum` asks of its words, and that these are words for the row's values.
use mathlib.Core.Path.{◌≡◌}
use mathlib.Core.List.{List}
use Prim.Native.Nat.{ℕ, ◌+◌, ◌*◌}
use native.Mathlib.Omega.{arith}
use lib.IntN.{ℤ}
use lib.ListN.{length, get_or}
use Rattle.algebra.specs.Places.{Run}
use Rattle.fermat.specs.Field.{modulus}
use Rattle.passes.specs.Butterfly.{AtMost}
use Rattle.passes.specs.Halving.{Filled}
use Rattle.spectrum.specs.Product.{factor_most}
use Rattle.row.specs.Row.{RowSpectrum}
use Rattle.layer.specs.Planned.{InRange}
use Rattle.layer.specs.declared.shape.Layer.{Layer}
use Rattle.window.specs.declared.shown.Shown.{Shown}
use Rattle.window.specs.Shows.{line_at}
use Rattle.window.specs.Window.{turned_index}
use Rattle.window.specs.Loaded.{Loaded, HoldsWeights}
use Rattle.strip.specs.Rows.{WeightsReady, LineReady}

-- ys is loaded, zs its transform
module _ (l : Layer) (field : l.field ≡ 4) {ys : List ℕ} (size : length ys ≡ 256) where
  -- ---- a row of the grid

  module _ {value : ℕ → ℤ} {xs : List ℕ} (loaded : Loaded (modulus l.field) (Run 0 256) value xs ys) where
    pub line_most : AtMost (2 * modulus 4) ys
    line_most i h = rw field at (loaded.here i (omega (arith, loaded.same_length)) (omega arith, omega arith)).bound

    pub line_filled : Filled 16 16 ys
    line_filled = record { some = omega arith; empty = λ i low high. absurd (omega arith) }

  pub line_ready : {s : Shown} {map : List ℤ} {channel line : ℕ} {xs zs : List ℕ}
      → Loaded (modulus l.field) (Run 0 256) (λ p. line_at l s map channel line 0 p) xs ys
      → length zs ≡ 256 → RowSpectrum (λ i. get_or ys i 0) 0 zs → AtMost (factor_most 4) zs → LineReady l s map channel line zs
  line_ready loaded long spectrum most = record {
    words = λ i. get_or ys i 0;
    value = λ v h. (loaded.here v (omega (arith, loaded.same_length)) (omega arith, omega arith)).value;
    spectrum = spectrum;
    bound = λ i h. most i (omega arith);
  }

  -- ---- a row of the kernel

  module _ {kernel : List ℤ} {from : ℕ} (range : InRange l) (holds : HoldsWeights l kernel from l.side ys) where
    pub weights_most : AtMost (2 * modulus 4) ys
    weights_most i h = rw field at (holds.bound i h)

    -- K is at most 16
    pub weights_filled : Filled 1 16 ys
    weights_filled = record { some = omega arith; empty = λ i low high. holds.empty i (omega (arith, range.side_high)) }

  pub weights_ready : {kernel : List ℤ} {plane a from : ℕ} {zs : List ℕ} → from ≡ (plane * l.side + turned_index l a) * l.side
      → HoldsWeights l kernel from l.side ys → length zs ≡ 256 → RowSpectrum (λ i. get_or ys i 0) 0 zs → AtMost (factor_most 4) zs
      → WeightsReady l kernel plane a zs
  weights_ready e holds long spectrum most = record {
    words = λ i. get_or ys i 0;
    value = λ b h. rw e at (holds.value b h);
    empty = λ b h. holds.empty b h;
    spectrum = spectrum;
    bound = λ i h. most i (omega arith);
  }
