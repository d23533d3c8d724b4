-- `load_line` loads the map row that the grid row holds, or clears.
use mathlib.Core.Path.{◌≡◌, sym, ap, ap₂, ◌∙◌, subst}
use Prim.Native.Nat.{ℕ, ◌+◌, ◌*◌, ◌-◌, ◌/◌, ◌≤◌, ◌<◌}
use native.Mathlib.Omega.{arith}
use lib.Dec.{T}
use lib.IntN.{ℤ}
use lib.ListN.{length, drop, length-drop}
use lib.Seq.{length-take-le}
use borrow.Rule.Slice.PartMut.{mid_of}
use Rattle.algebra.specs.PlacesLaws.{part_ends}
use Rattle.layer.specs.Windows.{spread}
use Rattle.layer.specs.WindowLaws.{spread_is, when_yes, when_no}
use Rattle.layer.specs.CountLaws.{map_rows_high, map_high}
use Rattle.layer.specs.PlaceLaws.{modulus_low, modulus_high, map_row, map_place}
use Rattle.window.specs.Shows.{shown_at, line_at}
use Rattle.window.specs.Window.{spacing, edge}
use Rattle.window.proofs.Figures.{spacing_high}
use Rattle.window.proofs.Loads.{loaded_clear, loaded_as}
use Rattle.window.proofs.Rows.{shown_lent}
use Rattle.window.proofs.load_line.Goals as goal
use Rattle.window.proofs.load_line.Goals.{After-edge_of}

-- the grid row holds a row of the map, and the edge is known
module _ (c : After-edge_of) where
  has_row : let a = c.args in T (spread (spacing a.layer) (edge a.layer) a.layer.height a.line)
  has_row = subst T (sym (sym c.has_values.ensures ∙ c.if-has_values.true)) tt

  -- which row it is
  abbrev row : ℕ
  row = (c.args.line - c.edge_of.result) / c.args.shown.spacing

  same_row : let a = c.args in row ≡ (a.line - edge a.layer) / spacing a.layer
  same_row = ap₂ (λ (e s : ℕ). (c.args.line - e) / s) c.edge_of.ensures c.requires.in_range.1.spacing_is

  row_of_place : (c.edge_of.result ≤ c.args.line) × (row < c.args.layer.height)
  row_of_place =
      let (low, whole, high) = spread_is _ _ _ _ has_row in
      (omega (arith, c.edge_of.ensures), omega (arith, same_row))

  row_inside : c.args.channel * c.args.layer.height + row < 32768
  row_inside = omega (arith, map_row _ c.requires.in_range.0 _ _ c.requires.map_len.1 row_of_place.1, map_rows_high _ c.requires.in_range.0)

  place_inside : let a = c.args in (a.channel * a.layer.height + row) * a.layer.width < 16777216
  place_inside =
      let r = c.requires.in_range.0 in
      omega (arith, map_place _ r _ _ 0 c.requires.map_len.1 row_of_place.1 r.width_low, map_high _ r)

  -- the map row, which is lent
  abbrev row_from : ℕ
  row_from = (c.args.channel * c.args.layer.height + row) * c.args.layer.width

  row_ends : row_from + c.args.layer.width ≤ c.args.layer.inputs * c.args.layer.height * c.args.layer.width
  row_ends = part_ends _ _ c.args.layer.width (map_row _ c.requires.in_range.0 _ _ c.requires.map_len.1 row_of_place.1)

  row_length : length (mid_of row_from (row_from + c.args.layer.width - row_from) c.args.map.now) ≡ c.args.layer.width
  row_length =
      length-take-le (row_from + c.args.layer.width - row_from) (drop row_from c.args.map.now)
      (omega (arith, length-drop row_from c.args.map.now, row_ends, c.requires.map_len.0)) ∙ omega arith

  -- what is loaded of the map row y, if it is lent
  abbrev value : (y p : ℕ) → ℤ
  value y p =
      let a = c.args in
      shown_at a.shown 0 a.map.now ((a.channel * a.layer.height + y) * a.layer.width + a.shown.first) p

  line_value : (p : ℕ) → let a = c.args in value row p ≡ line_at a.layer a.shown a.map.now a.channel a.line 0 p
  line_value p = ap (λ (y : ℕ). value y p) same_row ∙ sym (when_yes (spread _ _ _ _) _ has_row)

pub overflow_sub-map_row : goal.overflow_sub-map_row
overflow_sub-map_row c = (row_of_place c).0

pub overflow_add-from : goal.overflow_add-from
overflow_add-from c = omega (arith, row_inside (goal.at.overflow_add-from c).After-edge_of)

pub overflow_mul-from-then-has_values : goal.overflow_mul-from-then-has_values
overflow_mul-from-then-has_values c = omega (arith, place_inside (goal.at.overflow_mul-from-then-has_values c).After-edge_of)

pub overflow_add-end : goal.overflow_add-end
overflow_add-end c = omega (arith, row_ends (goal.at.overflow_add-end c).After-edge_of, map_high _ c.requires.in_range.0)

pub offset_bounds-map-from : goal.offset_bounds-map-from
offset_bounds-map-from c = omega (arith, place_inside (goal.at.offset_bounds-map-from c).After-edge_of)

pub slice_bounds-load_row-end : goal.slice_bounds-load_row-end
slice_bounds-load_row-end c = omega (arith, row_ends (goal.at.slice_bounds-load_row-end c).After-edge_of, c.requires.map_len.0)

pub load_row-requires : goal.load_row-requires
load_row-requires c =
    let r = c.requires.in_range.0 in
    let m = c.modulus_of.ensures in
    let fits = c.requires.in_range.1 in
    let known = (goal.at.load_row-requires c).After-edge_of in
    record {
      inside = (fits.inside, omega (arith, fits.spacing_is, spacing_high _ r), λ i l. omega (arith, row_length known, fits.in_map i l));
      le_modulus = (omega (arith, m, modulus_low _ r), omega (arith, m, modulus_high _ r));
    }

pub returns-then-has_values : goal.returns-then-has_values
returns-then-has_values c =
    let loaded = rw c.modulus_of.ensures at c.load_row.ensures in
    let known = (goal.at.returns-then-has_values c).After-edge_of in
    loaded_as loaded
    (λ p l h. (h, shown_lent c.args.shown c.args.map.now (row_from known) _ c.args.layer.width (omega arith) c.requires.in_range.1.in_map p ∙ line_value known p))
    (λ p h. h)

pub returns-else-has_values : goal.returns-else-has_values
returns-else-has_values c =
    let e = sym c.has_values.ensures ∙ c.if-has_values.false in
    let cleared = loaded_clear c.clear.ensures in
    loaded_as cleared (λ p l h. ((h.0, omega arith), sym (when_no (spread _ _ _ _) _ (λ t. subst T e t)))) (λ p h. (h.0, omega arith))
