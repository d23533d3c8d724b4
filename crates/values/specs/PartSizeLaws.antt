-- Laws of how far the parts of either engine reach, and of the rows or columns in the parts before one. They rest on the laws of counts and of parts along
-- a line.
use Rattle.std.specs.Prelude.{◌≡◌, ℕ, zero, suc, ◌+◌, ◌*◌, ◌-◌, ◌/◌, ◌<◌, ◌≤◌, min, ltb}
use Rattle.std.proofs.Common.{sym, ◌∙◌, div-lt_iff_lt-mul, suc-mul, arith, lt-ltb, le-ltb}
use Rattle.std.proofs.Math.Decide.{dec_lt}
use Rattle.algebra.specs.CountedLaws.{counted_same, counted_none, counted_below, counted_between}
use Rattle.base.specs.Number.{ceiling_div}
use Rattle.base.specs.NumberLaws.{quotient_is, ceiling_le, le_ceiling, div_ceil_is}
use Rattle.layer.specs.declared.shape.Layer.{Layer}
use Rattle.layer.specs.Planned.{InRange, Planned}
use Rattle.layer.specs.Shape.{grid_step, span}
use Rattle.layer.specs.PartLaws.{step_range, span_is, wanted_lt}
use Rattle.layer.specs.TileSizeLaws.{tile_side_low, tile_side_high}
use Rattle.layer.specs.StripLaws.{strip_length_low, strip_length_high}
use Rattle.checks.specs.declared.method.Method.{Method}
use Rattle.checks.specs.declared.method.Method.TheVariants.{Tiles, Strips}
use Rattle.values.specs.PartSize.{part_height, part_width, held_before}

-- ---- how far a part reaches

module _ (method : Method) (l : Layer) (r : InRange l) where
  pub height_range : (1 ≤ part_height method l) × (part_height method l ≤ 256)
  height_range = go method
    where
      go : (method : Method) → (1 ≤ part_height method l) × (part_height method l ≤ 256)
      go Tiles = (omega (arith, tile_side_low l r), omega (arith, tile_side_high l r))
      go Strips = ((step_range l r).0, omega (arith, (step_range l r).1))

  pub width_range : (1 ≤ part_width method l) × (part_width method l ≤ 256)
  width_range = go method
    where
      go : (method : Method) → (1 ≤ part_width method l) × (part_width method l ≤ 256)
      go Tiles = (omega (arith, tile_side_low l r), omega (arith, tile_side_high l r))
      go Strips = (omega (arith, strip_length_low l r), strip_length_high l r)

-- ---- the rows or columns in the parts before

pub held_before_lem : (l : Layer) (count length part : ℕ) → 0 < grid_step l → 0 < length
    → held_before l count length part ≡ min count (ceiling_div (part * length) (grid_step l))
held_before_lem l count length part step some = counted_same count (λ e below. go e (dec_lt (e * grid_step l) (part * length))) ∙ counted_below count _
  where
    first : ℕ
    first = ceiling_div (part * length) (grid_step l)

    go : (e : ℕ) → Dec (e * grid_step l < part * length) → ltb (e * grid_step l / length) part ≡ ltb e first
    go e (yes a) =
        let low : first ≤ e → ⊥ = λ h. omega (arith, le_ceiling (part * length) (grid_step l) e step h) in
        lt-ltb _ _ ((div-lt_iff_lt-mul some).1 a) ∙ sym (lt-ltb e first (omega arith))
    go e (no a) =
        let high : e * grid_step l / length < part → ⊥ = λ h. a ((div-lt_iff_lt-mul some).0 h) in
        le-ltb (e * grid_step l / length) part (omega arith) ∙ sym (le-ltb e first (ceiling_le (part * length) (grid_step l) e step (omega arith)))

-- by these `grind` finds it in the library's quotient
pub ruleset held_steps = (held_before_lem, div_ceil_is, step_range)

pub held_none : (l : Layer) (count length : ℕ) → held_before l count length 0 ≡ 0
held_none l count length = counted_none count {f = λ e. ltb (e * grid_step l / length) 0} (λ e below. le-ltb (e * grid_step l / length) 0 (omega arith))

pub held_high : (l : Layer) (count length part : ℕ) → 0 < grid_step l → 0 < length → held_before l count length part ≤ count
held_high l count length part step some = omega (arith, held_before_lem l count length part step some)

-- one part more holds no fewer
pub held_grows : (l : Layer) (count length part : ℕ) → held_before l count length part ≤ held_before l count length (suc part)
held_grows l count length part = omega (arith, counted_between count (λ e. e * grid_step l / length) part (suc part) (omega arith))

-- ---- a strip stands in one output row

pub own_row : (l : Layer) (e : ℕ) → 0 < grid_step l → e * grid_step l / grid_step l ≡ e
own_row l e step = quotient_is (grid_step l) (e * grid_step l) e (omega arith) (omega arith)

pub rows_down : (l : Layer) → Planned l → ceiling_div (span l l.rows) (grid_step l) ≡ l.rows
rows_down l plan = go l.rows plan.rows_low
  where
    step : 0 < grid_step l
    step = (step_range l plan.shape).0

    go : (count : ℕ) → 0 < count → ceiling_div (span l count) (grid_step l) ≡ count
    go zero some = absurd (omega arith)
    go (suc last) some =
        let spanned : span l (suc last) ≡ last * grid_step l + 1 = span_is l (suc last) some ∙ rw (less last) in
        let low : last < ceiling_div (span l (suc last)) (grid_step l) = rw (own_row l last step) at (wanted_lt l (grid_step l) (suc last) last step (omega arith)) in
        let high = ceiling_le (span l (suc last)) (grid_step l) (suc last) step (omega (arith, step, spanned, suc-mul last (grid_step l))) in
        omega arith
      where
        less : (n : ℕ) → suc n - 1 ≡ n
        less n = omega arith
