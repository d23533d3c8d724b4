-- The rows of a tile are stored row by row. It rests on the laws of written places.
use mathlib.Core.Path.{◌≡◌, ap, ap₂, ◌∙◌}
use mathlib.Core.Logic.{◌⊎◌, inl, inr}
use mathlib.Core.List.{List}
use Prim.Native.Nat.{ℕ, ◌+◌, ◌*◌, ◌-◌, ◌/◌, ◌%◌, ◌^◌, ◌<◌, ◌≤◌}
use native.Mathlib.Nat.{div-add-mod', add_assoc, mul-le-mul_right}
use native.Mathlib.Decide.{ℕ_discrete}
use native.Mathlib.Omega.{arith}
use lib.Arith.{digits_lt, digits_div, digits_mod}
use lib.IntN.{ℤ}
use lib.Pow.{pow_mono}
use lib.ListN.{length, get_or}
use Rattle.algebra.specs.Places.{Run}
use Rattle.algebra.specs.PlacesLaws.{written_nothing, written_as, written_again}
use Rattle.fermat.specs.Field.{transform_length}
use Rattle.spectrum.specs.Value.{offset_of, less_offset}
use Rattle.layer.specs.declared.shape.Layer.{Layer}
use Rattle.layer.specs.Shape.{grid_step}
use Rattle.store.specs.declared.Held.{Held}
use Rattle.store.specs.Held.{RowStorable, RowStored, WithWords, RowsStorable, RowsStored}

-- ---- the words of the rows

-- those of every row or column held are among the N by N
pub words_within : (l : Layer) (h : Held) → WithWords l h → (i : ℕ) → i < h.count → h.word + i * grid_step l < transform_length l.field
words_within l h last i below =
    let less : i ≤ h.count - 1 = omega arith in
    omega (arith, mul-le-mul_right (grid_step l) less)

-- those of a row are there, and their values fit
pub row_storable : (l : Layer) (rows columns : Held) (words : List ℕ) → transform_length l.field * transform_length l.field ≤ length words
    → WithWords l rows → WithWords l columns → RowsStorable l rows columns words → (r : ℕ) → r < rows.count
    → {offset from step : ℕ} → offset ≡ offset_of l.field → step ≡ grid_step l
    → from ≡ (rows.word + r * grid_step l) * transform_length l.field + columns.word → RowStorable offset from step columns.count words
row_storable l rows columns words square in_rows in-columns fit r below offset_is step_is from_is i less =
    let row : ℕ = (rows.word + r * grid_step l) * transform_length l.field in
    rw (offset_is, step_is, from_is, add_assoc row columns.word (i * grid_step l))
    (omega (arith, digits_lt (words_within l rows in_rows r below) (words_within l columns in-columns i less)), fit r i below less)

-- offset is at most that of F_5
pub offset_high : (field : ℕ) → field ≤ 5 → offset_of field ≤ 2147483648
offset_high field high =
    let power : 2 ^ (2 ^ field) ≤ 2 ^ 32 = pow_mono (pow_mono {i = field} {j = 5} high) in
    omega arith

-- ---- rows of w places, of which `count` from `first` on are written

module _ (w first count : ℕ) (room : first + count ≤ w) where
  in_row : (e p : ℕ) → Run (e * w + first) count p → (p / w ≡ e) × (p % w ≡ p - e * w)
  in_row e p h =
      let f : ℕ = p - e * w in
      let small : f < w = omega arith in
      let same : p ≡ e * w + f = omega arith in
      (ap (λ (k : ℕ). k / w) same ∙ digits_div e small, ap (λ (k : ℕ). k % w) same ∙ digits_mod e small)

  to_row : (e p : ℕ) → p / w ≡ e → Run first count (p % w) → Run (e * w + first) count p
  to_row e p is h =
      let whole : p / w * w + p % w ≡ p = div-add-mod' p w in
      let row : p / w * w ≡ e * w = ap (λ (k : ℕ). k * w) is in
      (omega arith, omega arith)

  -- a place of the r + 1 rows from `top` on is one of the first r of them or of the last
  one_more : (top r p : ℕ) → Run top (r + 1) (p / w) × Run first count (p % w)
      → ((Run top r (p / w) × Run first count (p % w)) × (Run ((top + r) * w + first) count p → ⊥)) ⊎ Run ((top + r) * w + first) count p
  one_more top r p h = go (ℕ_discrete (p / w) (top + r))
    where
      go : Dec (p / w ≡ top + r)
          → ((Run top r (p / w) × Run first count (p % w)) × (Run ((top + r) * w + first) count p → ⊥)) ⊎ Run ((top + r) * w + first) count p
      go (yes e) = inr (to_row (top + r) p e h.1)
      go (no n) = inl (((h.0.0, omega (arith, h.0)), h.1), λ run. n (in_row (top + r) p run).0)

-- a row more of the tile is stored
module _ (l : Layer) (rows columns : Held) (words : List ℕ) {xs : List ℤ} (room : columns.first + columns.count ≤ l.columns) where
  pub rows_none : RowsStored l rows columns 0 words xs xs
  rows_none = written_nothing (λ p h. omega (arith, h.0))

  pub rows_next : {ys zs : List ℤ} (r : ℕ) {offset from step : ℕ} → offset ≡ offset_of l.field → step ≡ grid_step l
      → from ≡ (rows.word + r * grid_step l) * transform_length l.field + columns.word
      → RowsStored l rows columns r words xs ys
      → RowStored offset ((rows.first + r) * l.columns + columns.first) from step columns.count words ys zs
      → RowsStored l rows columns (r + 1) words xs zs
  rows_next r {offset} {from} {step} offset_is step_is from_is before row =
      written_again before
      (written_as row (λ p below h. h) (λ p h. h) (λ p below h. ap₂ less_offset offset_is (ap (λ (k : ℕ). get_or words k 0) (place p h))))
      (λ p below h. one_more w columns.first columns.count room rows.first r p h)
      (λ p h. ((h.0.0, omega (arith, h.0)), h.1))
      (λ p h. let (row, column) = at p h in ((omega arith, omega arith), (omega arith, omega arith)))
    where
      w : ℕ
      w = l.columns

      e : ℕ
      e = rows.first + r

      at : (p : ℕ) → Run (e * w + columns.first) columns.count p → (p / w ≡ e) × (p % w ≡ p - e * w)
      at p h = in_row w columns.first columns.count room e p h

      place : (p : ℕ) → Run (e * w + columns.first) columns.count p
          → from + (p - (e * w + columns.first)) * step
          ≡ (rows.word + (p / w - rows.first) * grid_step l) * transform_length l.field + (columns.word + (p % w - columns.first) * grid_step l)
      place p h =
          let (row, column) = at p h in
          let up : p / w - rows.first ≡ r = omega arith in
          let same : p - (e * w + columns.first) ≡ p % w - columns.first = omega arith in
          rw (step_is, from_is, up, same) (add_assoc _ _ _)
