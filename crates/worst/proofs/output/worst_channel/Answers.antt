use mathlib.Core.Path.{◌≡◌, refl, ap, sym, ◌∙◌}
use Prim.Native.Nat.{ℕ, ◌+◌, ◌*◌}
use native.Mathlib.Nat.{mul-le-mul}
use native.Mathlib.Omega.{arith}
use Rattle.algebra.specs.First.{first_where}
use Rattle.algebra.specs.Greatest.{greatest, first_greatest}
use Rattle.algebra.specs.GreatestLaws.{first_greatest_next, first_greatest_stays}
use Rattle.load.specs.Load.{load}
use Rattle.load.proofs.LoadLaws.{load-conv}
use Rattle.worst.proofs.output.worst_channel.Goals as goal
use Rattle.worst.proofs.output.worst_channel.Goals.{After-size_total, then-most-load, else-most-load}

pub loop-m-init : goal.loop-m-init
unfolding greatest first_greatest first_where
loop-m-init c = (refl, refl)

pub overflow_mul-load : goal.overflow_mul-load
overflow_mul-load c =
    omega (arith, mul-le-mul c.requires.0.peak_most c.size_total.ensures.1)

-- the load of channel m, as the code makes it
load_is : (c : After-size_total) → let a = c.args in
    a.layer.peak * c.size_total.result ≡ load a.layer a.kernel.now c.loop-m.m
load_is c =
    let a = c.args in
    ap (λ (n : ℕ). a.layer.peak * n) c.size_total.ensures.0
    ∙ sym (load-conv a.layer a.kernel.now c.loop-m.m c.requires.1)

-- what the branch makes of `most` and `channel`
pub loop-m-preserved : goal.loop-m-preserved
loop-m-preserved c =
    let a = c.args in
    let loads : ℕ → ℕ = load a.layer a.kernel.now in
    let m = c.loop-m.m in
    let is = load_is (goal.at.loop-m-preserved c).After-size_total in
    let (most, channel) = c.loop-m.invariant in
    let next : (c.if-most-load.most ≡ greatest (m + 1) loads) × (c.if-most-load.channel ≡ first_greatest (m + 1) loads) =
    elim c.if-most-load.branch [
      | then-most-load w ↦
          let n = first_greatest_next loads m (rw (is, most) at w.if-most-load.true) in (w.most-is ∙ is ∙ sym n.0, w.channel-is ∙ sym n.1)
      | else-most-load w ↦
          let n = first_greatest_stays loads m (rw (is, most) at w.if-most-load.false) in (w.most-is ∙ most ∙ sym n.0, w.channel-is ∙ channel ∙ sym n.1)
    ]
    in
    next

pub returns : goal.returns
returns c =
    let done : c.loop-m.m ≡ c.args.layer.outputs = omega arith in
    rw (c.loop-m.invariant.1, done)
