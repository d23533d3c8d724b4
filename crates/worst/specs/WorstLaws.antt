-- The map for an output whose window lies whole inside the map: it is within the peak, and the output equals the load of its channel, since each
-- weight times the value that it meets is A times the weight's size. It rests on the one form of both kinds in `WeighedLaws`.
use Rattle.std.specs.Prelude.{◌≡◌, Bool, ◌&&◌, List, ℕ, zero, suc, ◌+◌, ◌*◌, ◌-◌, ◌<◌, ◌≤◌, T, negsuc, neg_ℤ, nat_abs, ◌*ℤ◌, length}
use Rattle.std.proofs.Math.Path.{refl, ap}
use Rattle.std.proofs.Common.{sym, ◌∙◌, subst, true≢false, ltb-true, ltb-false, eq-eqb}
use Rattle.std.proofs.Math.Bool.{true, false}
use native.Mathlib.Omega.{arith}
use Rattle.std.proofs.Math.Arith.{digits_lt}
use Rattle.std.proofs.Math.IntN.{ℤ, pos}
use Rattle.std.specs.Int.Signed.{lt_z}
use Rattle.algebra.specs.Sum.{sum, sum_z}
use Rattle.algebra.specs.SumLaws.{naturals, integers, sum-map, sum_mul}
use Rattle.algebra.specs.Planes.{cell}
use Rattle.algebra.specs.PlacesLaws.{length-table, get_d_table}
use Rattle.algebra.specs.PlanesLaws.{stacked_at_lem}
use Rattle.algebra.specs.EveryLaws.{both_true}
use Rattle.algebra.specs.SizeLaws.{size_neg}
use Rattle.algebra.specs.TripleSums.{sum3_cong}
use Rattle.layer.specs.declared.shape.Layer.{Layer}
use Rattle.layer.specs.Shape.{map_count}
use Rattle.layer.specs.Direct.{when, within, shifted, plane_of, full_at}
use Rattle.layer.specs.Windows.{weighed, met_by}
use Rattle.layer.specs.WindowLaws.{shifted-cell}
use Rattle.layer.proofs.WeighedLaws.{full_weighed}
use Rattle.load.specs.Load.{size_total, load, within_peak}
use Rattle.load.proofs.LoadLaws.{load-conv, peak_from}
use Rattle.worst.specs.declared.output.Output.{Output}
use Rattle.worst.specs.Window.{inside_at}
use Rattle.worst.specs.WindowLaws.{inside-row}
use Rattle.worst.specs.Worst.{value_for, weight_met, value_at, map_for}

-- ---- one value

value_size : (peak : ℕ) (w : ℤ) → nat_abs (value_for peak w) ≤ peak
unfolding value_for
value_size peak (pos zero) = omega arith
value_size peak (pos (suc n)) = omega arith
value_size peak (negsuc n) = omega (arith, size_neg (pos peak))

-- by the sign of the weight
pub value_above : (peak : ℕ) (w : ℤ) → lt_z (pos 0) w ≡ true → value_for peak w ≡ pos peak
unfolding value_for
value_above peak (pos zero) e = let l : 0 < 0 = ltb-true 0 0 e in absurd (omega arith)
value_above peak (pos (suc n)) e = refl
value_above peak (negsuc n) e = absurd (subst T (sym e) tt)

pub value_below : (peak : ℕ) (w : ℤ) → lt_z w (pos 0) ≡ true → value_for peak w ≡ neg_ℤ (pos peak)
unfolding value_for
value_below peak (pos n) e = let l : n < 0 = ltb-true n 0 e in absurd (omega arith)
value_below peak (negsuc n) e = refl

pub value_none : (peak : ℕ) (w : ℤ) → lt_z (pos 0) w ≡ false → lt_z w (pos 0) ≡ false → value_for peak w ≡ pos 0
unfolding value_for
value_none peak (pos zero) e d = refl
value_none peak (pos (suc n)) e d = let l : suc n ≤ 0 = ltb-false 0 (suc n) e in absurd (omega arith)
value_none peak (negsuc n) e d = absurd (subst T d tt)

times_value : (peak : ℕ) (w : ℤ) → w *ℤ value_for peak w ≡ pos (peak * nat_abs w)
unfolding value_for
times_value peak (pos zero) = ap pos (omega arith)
times_value peak (pos (suc n)) = ap pos (omega arith)
times_value zero (negsuc n) = let none : suc n * 0 ≡ 0 = omega arith in rw none (ap pos (omega arith))
times_value (suc peak) (negsuc n) = ap pos (omega arith)

-- a sum of numbers from 0 up
sum_pos : (n : ℕ) (g : ℕ → ℕ) → sum_z n (λ i. pos (g i)) ≡ pos (sum n g)
sum_pos n g = sum-map naturals integers pos refl (λ x y. refl) n g

-- ---- the weight that meets a place

-- the output's window holds row i, column j of the map
abbrev pub row_met : Layer → Output → (i : ℕ) → Bool
row_met l o i = within (o.row * l.stride) l.side (i + l.padding)

abbrev pub column_met : Layer → Output → (j : ℕ) → Bool
column_met l o j = within (o.column * l.stride) l.side (j + l.padding)

module _ (l : Layer) (kernel : List ℤ) (o : Output) (c i j : ℕ) where
  pub weight_outside : row_met l o i && column_met l o j ≡ false → weight_met l kernel o c i j ≡ pos 0
  unfolding weight_met
  weight_outside out = none (row_met l o i) (column_met l o j) _ out
    where
      none : (a b : Bool) (z : ℤ) → a && b ≡ false → when a (when b z) ≡ pos 0
      none true true z e = absurd (true≢false e)
      none true false z e = refl
      none false b z e = refl

  pub weight_inside : l.kind ≡ 0 → row_met l o i && column_met l o j ≡ true
      → weight_met l kernel o c i j
      ≡ cell l.side l.side kernel (o.channel * l.inputs + c) (i + l.padding - o.row * l.stride) (j + l.padding - o.column * l.stride)
  unfolding weight_met
  weight_inside conv_kind met =
      let (row, column) = both_true (row_met l o i) (column_met l o j) met in
      rw (eq-eqb l.kind 0 conv_kind, row, column)

-- ---- the map

module _ (l : Layer) (kernel : List ℤ) (o : Output) where
  pub map-length : length (map_for l kernel o) ≡ map_count l
  map-length = length-table (map_count l) (value_at l kernel o)

  pub map-within : within_peak l.peak (map_for l kernel o) ≡ true
  unfolding value_at
  map-within = peak_from l.peak (map_for l kernel o) (λ n h.
      rw (get_d_table (pos 0) (map_count l) (value_at l kernel o) n (omega (arith, map-length))) (value_size l.peak _))

  -- the value at a channel, row and column
  pub value_at_lem : (c i j : ℕ) → i < l.height → j < l.width
      → value_at l kernel o ((c * l.height + i) * l.width + j) ≡ value_for l.peak (weight_met l kernel o c i j)
  unfolding value_at
  value_at_lem c i j hi hj = stacked_at_lem l.height l.width (λ c i j. value_for l.peak (weight_met l kernel o c i j)) c i j hi hj

  map-cell : (c i j : ℕ) → c < l.inputs → i < l.height → j < l.width
      → cell l.height l.width (map_for l kernel o) c i j ≡ value_for l.peak (weight_met l kernel o c i j)
  map-cell c i j hc hi hj =
      get_d_table (pos 0) (map_count l) (value_at l kernel o) ((c * l.height + i) * l.width + j) (digits_lt (digits_lt hc hi) hj) ∙ value_at_lem c i j hi hj

  module _ (rows : inside_at l l.height o.row ≡ true) (columns : inside_at l l.width o.column ≡ true) where
    -- what the weight at row a, column b meets
    meets : (c a b : ℕ) → c < l.inputs → a < l.side → b < l.side
        → shifted l.height l.width (map_for l kernel o) c l.padding (o.row * l.stride + a) l.padding (o.column * l.stride + b)
        ≡ value_for l.peak (cell l.side l.side kernel (plane_of l o.channel c) a b)
    unfolding weight_met
    meets c a b hc ha hb =
        let top = o.row * l.stride in
        let left = o.column * l.stride in
        let row = inside-row l l.height o.row rows a ha in
        let column = inside-row l l.width o.column columns b hb in
        let i = top + a - l.padding in
        let j = left + b - l.padding in
        let a-is : i + l.padding - top ≡ a = omega arith in
        let b-is : j + l.padding - left ≡ b = omega arith in
        let weight = shifted-cell l.side l.side kernel (plane_of l o.channel c) top (i + l.padding) left (j + l.padding)
        (omega arith) (omega arith) (omega arith) (omega arith) in
        shifted-cell l.height l.width (map_for l kernel o) c l.padding (top + a) l.padding (left + b) row.0 row.1 column.0 column.1
        ∙ map-cell c i j hc row.1 column.1
        ∙ ap (value_for l.peak) (weight ∙ rw (a-is, b-is))

    pub reaches : l.kind ≡ 0 → 0 < l.stride → full_at l (map_for l kernel o) kernel o.channel o.row o.column ≡ pos (load l kernel o.channel)
    unfolding weighed met_by size_total
    reaches conv_kind strided =
        rw (load-conv l kernel o.channel conv_kind)
        (full_weighed l (map_for l kernel o) kernel strided o.channel o.row o.column
        ∙ sum3_cong l.inputs l.side l.side _ _ (λ c a b hc ha hb.
        ap (λ (z : ℤ). weight c a b *ℤ z) (met c a b ∙ meets c a b hc ha hb) ∙ times_value l.peak (weight c a b)) ∙ simp (sum_pos, sum_mul))
      where
        weight : (c a b : ℕ) → ℤ
        weight c a b = cell l.side l.side kernel (plane_of l o.channel c) a b

        met : (c a b : ℕ) → met_by l (map_for l kernel o) o.row o.column c a b
            ≡ shifted l.height l.width (map_for l kernel o) c l.padding (o.row * l.stride + a) l.padding (o.column * l.stride + b)
        met c a b = rw (eq-eqb l.kind 0 conv_kind)
