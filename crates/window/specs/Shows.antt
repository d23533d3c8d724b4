-- What the rows of a window show of the rows of the map, and where. The rows of the window differ only in the map row that they show.
use Rattle.std.specs.Prelude.{◌≡◌, List, ℕ, ◌+◌, ◌*◌, ◌-◌, ◌/◌, ◌≤◌, ◌<◌, ℤ, pos, get_or}
use Rattle.layer.specs.Windows.{spread}
use Rattle.layer.specs.declared.shape.Layer.{Layer}
use Rattle.layer.specs.Direct.{when}
use Rattle.window.specs.declared.shown.Shown.{Shown}
use Rattle.window.specs.Window.{spacing, edge}

-- the values lie within a row of n places
pub record Inside (n : ℕ) (s : Shown) : Type 0 where
  pub apart : 0 < s.spacing
  pub begins : s.begin ≤ n
  pub ends : (i : ℕ) → i < s.count → s.begin + i * s.spacing < n

-- and within the map
pub record Fitting (l : Layer) (n : ℕ) (s : Shown) : Type 0 where
  pub inside : Inside n s
  pub spacing_is : s.spacing ≡ spacing l
  pub in_map : (i : ℕ) → i < s.count → s.first + i < l.width
  pub small : s.first ≤ 20000

-- s is what a row of n places of the window that begins at `column` shows
pub record Shows (l : Layer) (n column : ℕ) (s : Shown) : Type 0 where
  pub fitting : Fitting l n s
  pub place : column + s.begin ≡ edge l + s.first * s.spacing
  pub least : (j : ℕ) → column ≤ edge l + j * s.spacing → s.first ≤ j
  pub all : (i : ℕ) → s.first + i < l.width → s.begin + i * s.spacing < n → i < s.count

-- the value at place p of a row of the window whose places begin at `at`; the first value that it shows is the one at `from`
abbrev pub shown_at : Shown → (at : ℕ) → List ℤ → (from p : ℕ) → ℤ
shown_at s at values from p =
    when (spread s.spacing (at + s.begin) s.count p) (get_or values (from + (p - (at + s.begin)) / s.spacing) (pos 0))

-- the same of a window of a map channel, in the window's row for the grid row `line`
abbrev pub line_at : Layer → Shown → List ℤ → (channel line at p : ℕ) → ℤ
line_at l s map channel line at p =
    when (spread (spacing l) (edge l) l.height line)
    (shown_at s at map ((channel * l.height + (line - edge l) / spacing l) * l.width + s.first) p)
