-- The figures of what a row of a window shows, as the code computes them, and the tests that it makes of a grid row. They rest on the laws
-- of steps across a line.
use mathlib.Core.Path.{◌≡◌, refl, ap}
use mathlib.Core.Bool.{Bool, true, false, cond}
use Prim.Native.Nat.{ℕ, zero, suc, ◌+◌, ◌*◌, ◌-◌, ◌/◌, ◌%◌, ◌<◌, ◌≤◌}
use native.Mathlib.Nat.{mul-div_cancel, suc-mul, mul-le-mul}
use native.Mathlib.Decide.{dec_lt}
use native.Mathlib.Omega.{arith}
use borrow.Author.Tests.{le-leb, lt-leb, eq-eqb, ne_eqb}
use lib.Dec.{ltb}
use Rattle.base.specs.NumberLaws.{ceiling_covers, ceiling_lt, ceiling_starts}
use Rattle.base.specs.Number.{ceiling_div}
use Rattle.layer.specs.Windows.{spread}
use Rattle.layer.specs.PlannedLaws.{cond_le}
use Rattle.layer.specs.Planned.{InRange}
use Rattle.layer.specs.declared.shape.Layer.{Layer}
use Rattle.layer.specs.Shape.{is_conv}
use Rattle.window.specs.Window.{spacing, edge}
use Rattle.window.specs.Shows.{Shows}

module _ (l : Layer) (r : InRange l) where
  pub spacing_low : 1 ≤ spacing l
  spacing_low = go (is_conv l)
    where
      go : (t : Bool) → 1 ≤ cond t 1 l.stride
      go true = omega arith
      go false = r.stride_low

  pub spacing_high : spacing l ≤ 4
  spacing_high = cond_le (is_conv l) (omega arith) r.stride_high

  pub edge_high : edge l ≤ 10
  edge_high = cond_le (is_conv l) (omega (arith, r.padding_high, r.side_high)) (omega (arith, r.side_high))

-- the figures: the first value that a row shows and its place, and as many values as the row and the map have room for
module _ (l : Layer) (r : InRange l) (column first begin : ℕ) (first_is : first ≡ ceiling_div (column - edge l) (spacing l))
    (begin-is : begin ≡ edge l + first * spacing l - column) where
  pub first_covers : column ≤ edge l + first * spacing l
  first_covers = rw first_is (omega (arith, ceiling_covers (column - edge l) (spacing l) (spacing_low l r)))

  -- values that stand before `first` stand before the window
  starts : (j : ℕ) → j < first → edge l + j * spacing l < column
  starts j h = omega (arith, ceiling_starts (column - edge l) (spacing l) j (spacing_low l r) (omega arith))

  pub begin_high : begin ≤ 10
  begin_high = go first refl
    where
      go : (k : ℕ) → first ≡ k → begin ≤ 10
      go zero e = omega (arith, edge_high l r, ap (λ (k : ℕ). k * spacing l) e)
      go (suc k) e =
          omega (arith, starts k (omega arith), spacing_high l r, suc-mul k (spacing l), ap (λ (k : ℕ). k * spacing l) e)

  pub first_high : first * spacing l ≤ column + 10
  first_high = omega (arith, begin_high)

  pub shows : (n room count : ℕ) → column ≤ 10000 → 16 ≤ n → room ≡ ceiling_div (n - begin) (spacing l)
      → count ≤ room → count ≤ l.width - first → ((i : ℕ) → i < room → i < l.width - first → i < count)
      → Shows l n column (record { spacing = spacing l; first = first; begin = begin; count = count })
  shows n room count near wide room_is in-room in-width most = record {
    fitting = record {
      inside = record {
        apart = spacing_low l r;
        begins = omega (arith, begin_high);
        ends = λ i h. omega (arith, ceiling_starts (n - begin) (spacing l) i (spacing_low l r) (omega arith));
      };
      spacing_is = refl;
      in_map = λ i h. omega arith;
      small = omega (arith, first_high, mul-le-mul {n₁ = first} {m₁ = 1} {n₂ = first} {m₂ = spacing l} (omega arith) (spacing_low l r));
    };
    place = omega (arith, first_covers);
    least = λ j h. at_least j h (dec_lt j first);
    all = λ i h k. most i (roomy i (omega arith)) (omega arith);
  }
    where
      at_least : (j : ℕ) → column ≤ edge l + j * spacing l → Dec (j < first) → first ≤ j
      at_least j h (yes k) = absurd (omega (arith, starts j k))
      at_least j h (no k) = omega arith

      roomy : (i : ℕ) → i * spacing l < n - begin → i < room
      roomy i h =
          let some = spacing_low l r in
          omega (arith, rw (mul-div_cancel i some) at (ceiling_lt (n - begin) (spacing l) (i * spacing l) some h))

-- the tests that the code makes of a grid row
module _ (S edge size line : ℕ) where
  pub spread_before : line < edge → spread S edge size line ≡ false
  unfolding spread
  spread_before h = rw (lt-leb edge line h) refl

  pub spread_between : edge ≤ line → ((line - edge) % S ≡ 0 → ⊥) → spread S edge size line ≡ false
  unfolding spread
  spread_between h d = rw (le-leb edge line h, ne_eqb _ _ d) refl

  pub spread_at : edge ≤ line → (line - edge) % S ≡ 0 → spread S edge size line ≡ ltb ((line - edge) / S) size
  unfolding spread
  spread_at h e = rw (le-leb edge line h, eq-eqb _ _ e) refl
