-- Laws of parts along a line of the stride-1 grid, of tiles and of strips alike: each wanted row or column lies in one of them, and each of them holds
-- one where it is not shorter than the step. They rest on the definitions of Shape and on the laws of quotients.
use Rattle.std.specs.Prelude.{◌≡◌, refl, Bool, true, false, cond, ℕ, zero, suc, ◌+◌, ◌*◌, ◌-◌, ◌/◌, ◌<◌, ◌≤◌}
use Rattle.std.proofs.Common.{subst, div-lt_iff_lt-mul, div-mul-le_self, mul-le-mul_right, suc-mul, arith}
use Rattle.std.proofs.Math.Nat.{lt-div-mul-add}
use Rattle.base.specs.NumberLaws.{ceiling_lt, ceiling_starts, quotient_is}
use Rattle.base.specs.Number.{ceiling_div}
use Rattle.layer.specs.Planned.{InRange}
use Rattle.layer.specs.declared.shape.Layer.{Layer}
use Rattle.layer.specs.Shape.{is_conv, grid_step, span}

-- ---- along one side: places `step` apart on a line of parts of `side`

-- the first of the places that lies in part t: it exists where the part is not shorter than the step
pub record Held (side step count t : ℕ) : Type 0 where
  pub place : ℕ
  pub below : place < count
  pub part : place * step / side ≡ t

pub held : (side step count t : ℕ) → 0 < step → step ≤ side → 0 < count → t < ceiling_div ((count - 1) * step + 1) side → Held side step count t
held side step count t some wide wanted l =
    let start : t * side < (count - 1) * step + 1 = ceiling_starts ((count - 1) * step + 1) side t (omega arith) l in
    let e : ℕ = (t * side + step - 1) / step in
    let low : t * side + step - 1 < e * step + step = lt-div-mul-add {a = t * side + step - 1} {b = step} some in
    let high : e * step ≤ t * side + step - 1 = div-mul-le_self (t * side + step - 1) step in
    let last : e < count = (div-lt_iff_lt-mul some).1 (omega (arith, split count step wanted)) in
    record { place = e; below = last; part = quotient_is side (e * step) t (omega arith) (omega arith) }
  where
    split : (count step : ℕ) → 0 < count → count * step ≡ (count - 1) * step + step
    split zero step h = absurd (omega arith)
    split (suc n) step h = let e : suc n - 1 ≡ n = omega arith in rw e (suc-mul n step)

-- ---- on the output of a layer

pub step_range : (l : Layer) → InRange l → (0 < grid_step l) × (grid_step l ≤ 4)
step_range l r = go (is_conv l)
  where
    go : (conv : Bool) → (0 < cond conv l.stride 1) × (cond conv l.stride 1 ≤ 4)
    go true = (r.stride_low, r.stride_high)
    go false = (omega arith, omega arith)

-- the rows that `count` wanted ones span
pub span_is : (l : Layer) (count : ℕ) → 0 < count → span l count ≡ (count - 1) * grid_step l + 1
span_is l count some = go (is_conv l)
  where
    go : (conv : Bool) → cond conv ((count - 1) * l.stride + 1) count ≡ (count - 1) * cond conv l.stride 1 + 1
    go true = refl
    go false = omega arith

-- a line of parts of any side: a wanted row or column lies in one of them
pub wanted_lt : (l : Layer) (side count e : ℕ) → 0 < side → e < count → e * grid_step l / side < ceiling_div (span l count) side
wanted_lt l side count e some h =
    rw (span_is l count (omega arith)) (ceiling_lt _ side _ some (omega (arith, mul-le-mul_right (grid_step l) (less count e h))))
  where
    less : (count e : ℕ) → e < count → e ≤ count - 1
    less count e h = omega arith

-- so there is one
pub part_some : (l : Layer) (side count : ℕ) → 0 < side → 0 < count → 0 < ceiling_div (span l count) side
part_some l side count some wanted = omega (arith, wanted_lt l side count 0 some wanted)

-- and each of them holds one, where it is not shorter than the step
pub part_held : (l : Layer) (side count t : ℕ) → 0 < grid_step l → grid_step l ≤ side → 0 < count → t < ceiling_div (span l count) side
    → Held side (grid_step l) count t
part_held l side count t some wide wanted h =
    held side (grid_step l) count t some wide wanted (subst (λ (n : ℕ). t < ceiling_div n side) (span_is l count wanted) h)
