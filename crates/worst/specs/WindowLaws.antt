-- Laws of whole windows: in one direction the first window inside the map is the first that does not begin before it, or there is none; in both
-- directions the first whole window of the crop stands in the first such row and the first such column. They rest on the laws of the first number
-- that passes a test and of the quotient rounded up.
use Rattle.std.specs.Prelude.{◌≡◌, Bool, true, ◌&&◌, ℕ, ◌+◌, ◌*◌, ◌-◌, ◌/◌, ◌%◌, ◌<◌, ◌≤◌, leb, ltb}
use Rattle.std.proofs.Math.Path.{sym}
use Rattle.std.proofs.Common.{ap, ◌∙◌, mul-le-mul, mul-le-mul_right, arith}
use borrow.Author.Tests.{ltb-true, lt-ltb, leb-true, le-leb}
use Rattle.std.proofs.Math.Arith.{digits_lt, digits_div, digits_mod}
use Rattle.algebra.specs.EveryLaws.{both_true, test_fails, every_at, every_from}
use Rattle.algebra.specs.FirstLaws.{first_is, first_none, first_passes, first_least, first_both, found_each, found_both}
use Rattle.base.specs.Number.{ceiling_div}
use Rattle.base.specs.NumberLaws.{ceiling_le, le_ceiling}
use Rattle.layer.specs.declared.shape.Layer.{Layer}
use Rattle.layer.specs.Direct.{within}
use Rattle.layer.specs.Planned.{InRange}
use Rattle.worst.specs.Window.{inside_at, first_inside, whole_at, first_whole, has_whole, whole_row, whole_column, Whole}

-- ---- one window in one direction

module _ (l : Layer) (extent e : ℕ) where
  -- one row of it
  pub inside-row : inside_at l extent e ≡ true → (a : ℕ) → a < l.side
      → (l.padding ≤ e * l.stride + a) × (e * l.stride + a - l.padding < extent)
  unfolding inside_at
  inside-row w a h =
      let row = every_at l.side (λ a. within l.padding extent (e * l.stride + a)) w a h in
      let both = both_true (leb l.padding (e * l.stride + a)) (ltb (e * l.stride + a - l.padding) extent) row in
      (leb-true _ _ both.0, ltb-true _ _ both.1)

  -- it begins and ends inside the map
  inside_ends : 1 ≤ l.side → inside_at l extent e ≡ true → (l.padding ≤ e * l.stride) × (e * l.stride + l.side ≤ extent + l.padding)
  inside_ends some w =
      let begin = inside-row w 0 (omega arith) in
      let end = inside-row w (l.side - 1) (omega arith) in
      (omega arith, omega arith)

  inside_where : l.padding ≤ e * l.stride → e * l.stride + l.side ≤ extent + l.padding → inside_at l extent e ≡ true
  unfolding inside_at
  inside_where begin end = every_from l.side _ (λ a h.
      rw (le-leb l.padding (e * l.stride + a) (omega arith), lt-ltb (e * l.stride + a - l.padding) extent (omega arith)))

-- no window of a full output, which has at most 2,058 rows and columns, begins further on than 4 times that
pub window_begins : (l : Layer) → InRange l → (e : ℕ) → e ≤ 2058 → e * l.stride ≤ 8232
window_begins l r e h = mul-le-mul {n₂ = 2058} {m₂ = 4} h r.stride_high

-- ---- the first window in one direction

module _ (l : Layer) (extent start count : ℕ) (strided : 1 ≤ l.stride) (some : 1 ≤ l.side) where
  -- the first row of the crop whose window does not begin before the map
  abbrev begun : ℕ
  begun = ceiling_div l.padding l.stride - start

  begins : l.padding ≤ (start + begun) * l.stride
  begins = le_ceiling l.padding l.stride (start + begun) strided (omega arith)

  -- a window inside the map is not before it
  not_before : (i : ℕ) → inside_at l extent (start + i) ≡ true → begun ≤ i
  not_before i w =
      let least = ceiling_le l.padding l.stride (start + i) strided (inside_ends l extent (start + i) some w).0 in omega arith

  -- nor does it end before that one
  not_past : (i : ℕ) → inside_at l extent (start + i) ≡ true → (start + begun) * l.stride + l.side ≤ extent + l.padding
  not_past i w =
      let later : (start + begun) * l.stride ≤ (start + i) * l.stride = mul-le-mul_right l.stride (omega (arith, not_before i w)) in
      omega (arith, (inside_ends l extent (start + i) some w).1)

  pub first_inside_found : begun < count → (start + begun) * l.stride + l.side ≤ extent + l.padding → first_inside l extent start count ≡ begun
  unfolding first_inside
  first_inside_found below end = first_is count (λ i. inside_at l extent (start + i)) begun below (inside_where l extent (start + begun) begins end)
      (λ i h. test_fails (inside_at l extent (start + i)) (λ w. omega (arith, not_before i w)))

  -- none, where the crop ends before that row or its window after the map
  none : ((i : ℕ) → i < count → inside_at l extent (start + i) ≡ true → ⊥) → first_inside l extent start count ≡ count
  unfolding first_inside
  none h = first_none count _ (λ i k. test_fails (inside_at l extent (start + i)) (h i k))

  pub first_inside_cut : count ≤ begun → first_inside l extent start count ≡ count
  first_inside_cut h = none (λ i k w. omega (arith, not_before i w))

  pub first_inside_past : extent + l.padding < (start + begun) * l.stride + l.side → first_inside l extent start count ≡ count
  first_inside_past h = none (λ i k w. omega (arith, not_past i w))

-- ---- both directions

module _ (l : Layer) where
  abbrev row_inside : ℕ → Bool
  row_inside i = inside_at l l.height (l.top + i)

  abbrev column_inside : ℕ → Bool
  column_inside j = inside_at l l.width (l.left + j)

  pub has_whole_lem : has_whole l ≡ ltb (first_inside l l.height l.top l.rows) l.rows && ltb (first_inside l l.width l.left l.columns) l.columns
  unfolding has_whole first_whole first_inside
  has_whole_lem = sym (found_both l.rows l.columns row_inside column_inside)

  module _ (has : has_whole l ≡ true) where
    pub first_below : first_whole l < l.rows * l.columns
    unfolding has_whole
    first_below = ltb-true _ _ has

    both : (first_inside l l.height l.top l.rows < l.rows) × (first_inside l l.width l.left l.columns < l.columns)
    unfolding has_whole first_whole first_inside
    both = found_each l.rows l.columns row_inside column_inside first_below

    first_is_both : first_whole l ≡ first_inside l l.height l.top l.rows * l.columns + first_inside l l.width l.left l.columns
    unfolding first_whole first_inside
    first_is_both = first_both l.rows l.columns row_inside column_inside both.0 both.1

    pub whole_row_lem : whole_row l ≡ first_inside l l.height l.top l.rows
    whole_row_lem = ap (λ (p : ℕ). p / l.columns) first_is_both ∙ digits_div _ both.1

    pub whole_column_lem : whole_column l ≡ first_inside l l.width l.left l.columns
    whole_column_lem = ap (λ (p : ℕ). p % l.columns) first_is_both ∙ digits_mod (first_inside l l.height l.top l.rows) both.1

    pub first_window : Whole l (whole_row l) (whole_column l)
    unfolding first_whole
    first_window = record {
      row_kept = rw whole_row_lem both.0;
      column_kept = rw whole_column_lem both.1;
      inside = first_passes (l.rows * l.columns) (λ p. whole_at l (p / l.columns) (p % l.columns)) first_below;
    }

  -- no earlier one is whole, and where one is, there is a first
  module _ {i j : ℕ} (w : Whole l i j) where
    pub no_earlier : first_whole l ≤ i * l.columns + j
    unfolding first_whole
    no_earlier = first_least (l.rows * l.columns) (λ p. whole_at l (p / l.columns) (p % l.columns)) (i * l.columns + j)
        (rw (digits_div i w.column_kept, digits_mod i w.column_kept) w.inside)

    pub whole_has : has_whole l ≡ true
    unfolding has_whole
    whole_has = lt-ltb (first_whole l) (l.rows * l.columns) (omega (arith, no_earlier, digits_lt w.row_kept w.column_kept))
