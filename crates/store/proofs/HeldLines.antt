-- The rows or columns of the output in part t of a line of parts: from the first at or after the part's start up to the first at or after
-- the next part's start. It rests on the laws of tiles.
use mathlib.Core.Path.{◌≡◌}
use Prim.Native.Nat.{ℕ, ◌+◌, ◌*◌, ◌-◌, ◌<◌, ◌≤◌, min}
use native.Mathlib.Decide.{dec_lt}
use native.Mathlib.Omega.{arith}
use Rattle.base.specs.NumberLaws.{ceiling_le, le_ceiling, quotient_low, quotient_high}
use Rattle.base.specs.Number.{ceiling_div}
use Rattle.layer.specs.Planned.{Planned, Wanted}
use Rattle.layer.specs.declared.shape.Layer.{Layer}
use Rattle.layer.specs.Shape.{grid_step, span}
use Rattle.layer.specs.PartLaws.{part_held}
use Rattle.layer.specs.TileLaws.{planned_tiled}
use Rattle.store.specs.Held.{HeldBy}

-- one of two numbers is the less
before : (a b : ℕ) → (b ≤ a → ⊥) → a < b
before a b h = go (dec_lt a b)
  where
    go : Dec (a < b) → a < b
    go (yes l) = l
    go (no n) = absurd (h (omega arith))

-- numbers from the first of part t on, and before the first of the next
module _ (side s t : ℕ) (some : 1 ≤ s) where
  from_first : (e : ℕ) → ceiling_div (t * side) s ≤ e → t * side ≤ e * s
  from_first e l = le_ceiling (t * side) s e some l

  to_first : (e : ℕ) → t * side ≤ e * s → ceiling_div (t * side) s ≤ e
  to_first e l = ceiling_le (t * side) s e some l

  before_next : (e : ℕ) → e < ceiling_div ((t + 1) * side) s → e * s < t * side + side
  before_next e l = before _ _ (λ h. omega (arith, ceiling_le ((t + 1) * side) s e some (omega arith)))

  to_next : (e : ℕ) → e * s < t * side + side → e < ceiling_div ((t + 1) * side) s
  to_next e l = before _ _ (λ h. omega (arith, le_ceiling ((t + 1) * side) s e some (omega arith)))

-- ---- what `held_in` computes

module _ (l : Layer) (p : Planned l) (side t count first end : ℕ) (w : Wanted l count) (wide : grid_step l ≤ side)
    (low : t < ceiling_div (span l count) side)
    (first_is : first ≡ ceiling_div (t * side) (grid_step l)) (end_is : end ≡ min (ceiling_div ((t + 1) * side) (grid_step l)) count) where
  step_low : 1 ≤ grid_step l
  step_low = (planned_tiled l p).step

  -- the part holds one of the rows or columns, and so its first
  pub first_held : (first < end) × (t * side ≤ first * grid_step l) × (first * grid_step l < t * side + side)
  first_held =
      let one = part_held l side count t step_low wide w.count_low low in
      let start = quotient_low side _ t one.part in
      let stop = quotient_high side _ t (omega (arith, step_low)) one.part in
      let up = to_first side (grid_step l) t step_low one.place start in
      let down = to_next side (grid_step l) t step_low one.place stop in
      let inside : first < ceiling_div ((t + 1) * side) (grid_step l) = omega (arith, first_is) in (
        omega (arith, first_is, end_is, one.below),
        from_first side (grid_step l) t step_low first (omega (arith, first_is)),
        before_next side (grid_step l) t step_low first inside,
      )

  pub held_by : {word : ℕ} → l.side - 1 + (first * grid_step l - t * side) ≡ word
      → HeldBy l side t count (record { first = first; count = end - first; word = word })
  held_by word_is = record {
    some = omega (arith, first_held);
    short = omega (arith, first_held, end_is);
    inside = λ e h. (
      from_first side (grid_step l) t step_low e (omega (arith, first_is, h.0)),
      before_next side (grid_step l) t step_low e (omega (arith, end_is, h.0, h.1)),
    );
    all = λ e below on.
        let up = to_first side (grid_step l) t step_low e on.0 in
        let down = to_next side (grid_step l) t step_low e on.1 in
        (omega (arith, first_is), omega (arith, first_held, first_is, end_is));
    word = word_is;
  }
