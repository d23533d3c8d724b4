-- What a row of a window shows is the row of `window_at`. It rests on the laws of values that stand apart.
use Rattle.std.specs.Prelude.{◌≡◌, refl, Bool, true, false, List, ℕ, ◌+◌, ◌*◌, ◌-◌, ◌/◌, ◌<◌, ◌≤◌, T, ℤ, pos, get_or}
use Rattle.std.proofs.Common.{sym, ap, ◌∙◌, subst, div-add-mod', mul-div_cancel, add-mul, arith}
use Rattle.algebra.specs.Planes.{cell}
use Rattle.layer.specs.Windows.{spread}
use Rattle.layer.specs.declared.shape.Layer.{Layer}
use Rattle.layer.specs.Direct.{when}
use Rattle.layer.specs.WindowLaws.{spread_is, spread_yes, when_yes, when_no}
use Rattle.window.specs.declared.shown.Shown.{Shown}
use Rattle.window.specs.Window.{spacing, edge, window_at}
use Rattle.window.specs.Shows.{Shows, shown_at, line_at}

-- the values: at place v of its row, the window shows what s says
module _ (l : Layer) (n column : ℕ) (s : Shown) (shows : Shows l n column s) (at v : ℕ) (short : v < n) where
  -- a value stands there, the one i after the first
  there : T (spread s.spacing (edge l) l.width (column + v))
      → T (spread s.spacing (at + s.begin) s.count (at + v))
      × (s.first + (at + v - (at + s.begin)) / s.spacing ≡ (column + v - edge l) / s.spacing)
  there t =
      let (low, whole, high) = spread_is s.spacing (edge l) l.width (column + v) t in
      let j : ℕ = (column + v - edge l) / s.spacing in
      let i : ℕ = j - s.first in
      let at_j : j * s.spacing ≡ column + v - edge l = omega (arith, div-add-mod' (column + v - edge l) s.spacing) in
      let first : s.first ≤ j = shows.least j (omega arith) in
      let split : j * s.spacing ≡ s.first * s.spacing + i * s.spacing =
      ap (λ (k : ℕ). k * s.spacing) (sum j s.first first) ∙ add-mul s.first i s.spacing in
      let distance : at + v - (at + s.begin) ≡ i * s.spacing = omega (arith, shows.place) in
      let last : i < s.count = shows.all i (omega arith) (omega (arith, shows.place)) in (
        spread_yes s.spacing (at + s.begin) s.count (at + v) i (omega (arith, shows.place)) distance shows.fitting.inside.apart last,
        rw (distance, mul-div_cancel i shows.fitting.inside.apart) (omega arith),
      )
    where
      sum : (j f : ℕ) → f ≤ j → j ≡ f + (j - f)
      sum j f h = omega arith

  back : T (spread s.spacing (at + s.begin) s.count (at + v)) → T (spread s.spacing (edge l) l.width (column + v))
  back t =
      let (low, whole, high) = spread_is s.spacing (at + s.begin) s.count (at + v) t in
      let i : ℕ = (at + v - (at + s.begin)) / s.spacing in
      let at_i : i * s.spacing ≡ at + v - (at + s.begin) = omega (arith, div-add-mod' (at + v - (at + s.begin)) s.spacing) in
      let split : (s.first + i) * s.spacing ≡ s.first * s.spacing + i * s.spacing = add-mul s.first i s.spacing in
      spread_yes s.spacing (edge l) l.width (column + v) (s.first + i) (omega (arith, shows.place)) (omega (arith, shows.place))
      shows.fitting.inside.apart (shows.fitting.in_map i high)

  shown : (map : List ℤ) (channel line : ℕ)
      → shown_at s at map ((channel * l.height + line) * l.width + s.first) (at + v)
      ≡ when (spread (spacing l) (edge l) l.width (column + v)) (cell l.height l.width map channel line ((column + v - edge l) / spacing l))
  shown map channel line = rw (← shows.fitting.spacing_is) (go (spread s.spacing (edge l) l.width (column + v)) refl)
    where
      base : ℕ
      base = (channel * l.height + line) * l.width

      go : (t : Bool) → spread s.spacing (edge l) l.width (column + v) ≡ t
          → shown_at s at map (base + s.first) (at + v)
          ≡ when t (get_or map (base + (column + v - edge l) / s.spacing) (pos 0))
      go true e =
          let (t, same) = there (subst T (sym e) tt) in
          when_yes (spread s.spacing (at + s.begin) s.count (at + v)) _ t ∙ ap (λ (k : ℕ). get_or map k (pos 0)) (omega arith)
      go false e = when_no (spread s.spacing (at + s.begin) s.count (at + v)) _ (λ t. subst T e (back t))

-- what is shown for the grid row `row + u` is the window's row u
pub line_window : (l : Layer) (map : List ℤ) (channel row column n : ℕ) (s : Shown) → Shows l n column s → (at u v : ℕ) → v < n
    → line_at l s map channel (row + u) at (at + v) ≡ window_at l map channel row column u v
line_window l map channel row column n s shows at u v short =
    ap (when (spread (spacing l) (edge l) l.height (row + u))) (shown l n column s shows at v short map channel ((row + u - edge l) / spacing l))
