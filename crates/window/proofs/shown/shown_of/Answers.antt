-- `shown_of` computes the figures of a row. It rests on the laws of steps across a line, here of `spacing` on the grid.
use mathlib.Core.Path.{◌≡◌, refl, ap₂, ◌∙◌}
use Prim.Native.Nat.{ℕ, ◌+◌, ◌*◌, ◌-◌, ◌<◌}
use native.Mathlib.Omega.{arith}
use Rattle.base.specs.Number.{ceiling_div}
use Rattle.base.specs.NumberLaws.{div_ceil_is}
use Rattle.window.specs.Window.{spacing, edge}
use Rattle.window.proofs.Figures.{spacing_low, shows}
use Rattle.window.proofs.shown.shown_of.Goals as goal
use Rattle.window.proofs.shown.shown_of.Goals.{After-min-count}

module _ (c : After-min-count) where
  some : 0 < c.spacing_of-spacing.result
  some = rw c.spacing_of-spacing.ensures (spacing_low _ c.requires.0)

  first_is : let a = c.args in c.div_ceil-first.result ≡ ceiling_div (a.column - edge a.layer) (spacing a.layer)
  first_is =
      rw (c.spacing_of-spacing.ensures, c.saturating_sub.ensures, c.edge_of-before.ensures) at
      (c.div_ceil-first.ensures ∙ div_ceil_is _ _ some)

  room_is : let a = c.args in let l = a.layer in let first = c.div_ceil-first.result in
      c.div_ceil-room.result ≡ ceiling_div (a.n - (edge l + first * spacing l - a.column)) (spacing l)
  room_is =
      let a = c.args in
      let first = c.div_ceil-first.result in
      let apart_is = c.spacing_of-spacing.ensures in
      c.div_ceil-room.ensures ∙ div_ceil_is _ _ some
      ∙ ap₂ ceiling_div
      (ap₂ (λ (before apart : ℕ). a.n - (before + first * apart - a.column)) c.edge_of-before.ensures apart_is)
      apart_is

pub returns : goal.returns
returns c =
    let a = c.args in
    let count = c.min-count.ensures in
    let left = c.saturating_sub-left.ensures in
    rw (c.spacing_of-spacing.ensures, c.edge_of-before.ensures)
    (shows a.layer c.requires.0 a.column _ _ (first_is c) refl a.n c.div_ceil-room.result c.min-count.result
    c.requires.1 c.requires.2 (room_is c) (omega arith) (omega arith) (λ i h k. omega arith))
