use mathlib.Core.Path.{◌≡◌, refl, ap₂, ◌∙◌}
use mathlib.Core.Bool.{◌&&◌}
use Prim.Native.Nat.{◌-◌}
use native.Mathlib.Omega.{arith}
use Rattle.algebra.specs.EveryLaws.{every_next}
use Rattle.steps.proofs.links.all_follow.Invariants.{pair}
use Rattle.steps.proofs.links.all_follow.Goals as goal

pub loop-k-init : goal.loop-k-init
loop-k-init c = refl

pub loop-k-preserved : goal.loop-k-preserved
loop-k-preserved c =
    let own = rw (c.step_at.ensures, c.step_at-in-loop-k.ensures) at c.is_followed-fit.ensures in
    ap₂ ◌&&◌ c.loop-k.invariant own ∙ every_next (pair c.args.steps.now) c.loop-k.k

pub returns : goal.returns
returns c =
    let done : c.loop-k.k ≡ c.args.count - 1 = omega arith in
    rw (c.loop-k.invariant, done)
