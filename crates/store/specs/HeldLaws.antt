-- Where the words of the rows or columns that a part holds are. It rests on the definitions of Held alone.
use Rattle.std.specs.Prelude.{◌≡◌, ℕ, ◌+◌, ◌*◌, ◌-◌, ◌<◌, ◌≤◌}
use Rattle.std.proofs.Common.{ap, ◌∙◌, arith}
use Rattle.algebra.specs.Places.{Run}
use Rattle.layer.specs.declared.shape.Layer.{Layer}
use Rattle.layer.specs.Shape.{grid_step}
use Rattle.store.specs.declared.Held.{Held}
use Rattle.store.specs.Held.{HeldBy}

module _ (l : Layer) (side t count : ℕ) (h : Held) (by : HeldBy l side t count h) where
  pub word_at : (e : ℕ) → Run h.first h.count e → h.word + (e - h.first) * grid_step l ≡ l.side - 1 + (e * grid_step l - t * side)
  word_at e run =
      let start = by.inside h.first (omega arith, omega (arith, by.some)) in
      let further : e * grid_step l ≡ h.first * grid_step l + (e - h.first) * grid_step l = split e h.first (grid_step l) run.0 in
      omega (arith, by.word, start.0)
    where
      split : (e first step : ℕ) → first ≤ e → e * step ≡ first * step + (e - first) * step
      split e first step le = let same : e ≡ first + (e - first) = omega arith in ap (λ (k : ℕ). k * step) same ∙ omega arith

  -- they are among the first K − 1 and side
  pub word_lt : (i : ℕ) → i < h.count → h.word + i * grid_step l < l.side - 1 + side
  word_lt i below =
      let e : ℕ = h.first + i in
      let run : Run h.first h.count e = (omega arith, omega arith) in
      let back : e - h.first ≡ i = omega arith in
      let at = rw back at (word_at e run) in
      omega (arith, by.inside e run)
