-- The done mark as a number.
use mathlib.Core.Path.{◌≡◌, refl, ap}
use mathlib.Core.Bool.{Bool, true, false, cond}
use mathlib.Core.List.{◌∷◌}
use Prim.Native.Nat.{ℕ}
use mir.Val.{bool_byte}
use Rattle.wemsteky.specs.Figures.{offender_figures}
use Rattle.wemsteky.proofs.seven_figures.Goals as goal

marked : (done : Bool) → ◌≡◌ {A = ℕ} (bool_byte done) (cond done 1 0)
marked true = refl
marked false = refl

pub returns : goal.returns
returns c =
    let p = c.args.progress in
    ap (λ (mark : ℕ). p.count ∷ p.job.next ∷ mark ∷ offender_figures p.offender) (marked p.done)
