-- An output is a plain sum of weights times values of a window that shows it. It rests on the one form of both kinds in layer's `WeighedLaws`;
-- here each weight is shown to meet the same value in the window, and CONV's kernel is turned round.
use Rattle.std.specs.Prelude.{◌≡◌, refl, Bool, true, false, List, ℕ, ◌+◌, ◌*◌, ◌-◌, ◌<◌, ◌≤◌, ℤ, ◌*ℤ◌}
use Rattle.std.proofs.Common.{ap, ap₂, ◌∙◌, arith}
use Rattle.algebra.specs.Planes.{cell}
use Rattle.algebra.specs.Sum.{sum_z}
use Rattle.algebra.specs.SumLaws.{integers, sum_cong, sum_reverse}
use Rattle.layer.specs.Windows.{weighed, spaced, met_by}
use Rattle.layer.specs.Planned.{InRange}
use Rattle.layer.specs.declared.shape.Layer.{Layer}
use Rattle.layer.specs.Shape.{is_conv, grid_step}
use Rattle.layer.specs.Direct.{full_at, plane_of}
use Rattle.layer.specs.SpacedLaws.{spaced_moved, shifted-spaced}
use Rattle.layer.proofs.WeighedLaws.{full_weighed}
use Rattle.window.specs.Window.{spacing, edge, window_at, turned_index, weight_at, channel_sum}

-- what holds of CONV and of TCONV
pub by_kind : (l : Layer) {A : Type 0} → (is_conv l ≡ true → A) → (is_conv l ≡ false → A) → A
by_kind l {A} conv tconv = go (is_conv l) refl
  where
    go : (test : Bool) → is_conv l ≡ test → A
    go true e = conv e
    go false e = tconv e

-- a sum over an index of the kernel is the same over the turned index
sum_turned : (l : Layer) (f : ℕ → ℤ) → sum_z l.side f ≡ sum_z l.side (λ a. f (turned_index l a))
sum_turned l f = by_kind l (λ e. rw e (sum_reverse integers l.side f)) (λ e. rw e refl)

-- the value that a weight meets at row i, column j of the full output, on the stride-1 grid
met_spaced : (l : Layer) → l.padding < l.side → (map : List ℤ) (i j c a b : ℕ) → a < l.side → b < l.side
    → met_by l map i j c (turned_index l a) (turned_index l b)
    ≡ spaced l.height l.width (spacing l) map c (edge l) (i * grid_step l + (l.side - 1 - a)) (edge l) (j * grid_step l + (l.side - 1 - b))
unfolding met_by
met_spaced l padded map i j c a b row column =
    by_kind l
    (λ e. rw e (shifted-spaced l.height l.width map c l.padding _ l.padding _))
    (λ e. rw e (spaced_moved l.height l.width l.stride map c a _ b _ _ _ _ _ (omega arith) (omega arith)))

-- place (u, v) of a window shows the output at row i, column j where it lies K − 1 grid places after the output's own, in rows and in columns,
-- and the window has K − 1 rows and columns before it
pub window_sum : (l : Layer) (map kernel : List ℤ) → InRange l → (m i j row column u v : ℕ)
    → row + u ≡ i * grid_step l + (l.side - 1) → column + v ≡ j * grid_step l + (l.side - 1) → l.side - 1 ≤ u → l.side - 1 ≤ v
    → full_at l map kernel m i j ≡ sum_z l.inputs (λ c. channel_sum l map kernel m row column c u v)
unfolding weighed channel_sum
window_sum l map kernel range m i j row column u v row_is column_is row_low column_low =
    full_weighed l map kernel range.stride_low m i j
    ∙ sum_cong integers l.inputs _ _ (λ c _. sum_turned l (λ a. sum_z l.side (λ b. term c a b))
    ∙ sum_cong integers l.side _ _ (λ a h. sum_turned l (λ b. term c (turned_index l a) b)
    ∙ sum_cong integers l.side _ _ (λ b k. ap (λ z. weight_at l kernel (plane_of l m c) a b *ℤ z) (met c a b h k))))
  where
    term : (c a b : ℕ) → ℤ
    term c a b = cell l.side l.side kernel (plane_of l m c) a b *ℤ met_by l map i j c a b

    back : (first place x : ℕ) → first + place ≡ x + (l.side - 1) → l.side - 1 ≤ place → (a : ℕ) → a < l.side
        → x + (l.side - 1 - a) ≡ first + (place - a)
    back first place x e low a h = omega arith

    met : (c a b : ℕ) → a < l.side → b < l.side
        → met_by l map i j c (turned_index l a) (turned_index l b) ≡ window_at l map c row column (u - a) (v - b)
    met c a b h k =
        met_spaced l range.padding_high map i j c a b h k
        ∙ ap₂ (λ (y x : ℕ). spaced l.height l.width (spacing l) map c (edge l) y (edge l) x)
        (back row u (i * grid_step l) row_is row_low a h) (back column v (j * grid_step l) column_is column_low b k)

-- such a place along a line of parts: output e, of which the crop's first is `first`, in a part that begins `from` places after it
pub on_grid : (K first from e step : ℕ) → from ≤ e * step
    → first * step + from + (K - 1 + (e * step - from)) ≡ (first + e) * step + (K - 1)
on_grid K first from e step low = omega arith
