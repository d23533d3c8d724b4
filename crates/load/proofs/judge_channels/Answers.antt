use mathlib.Core.Path.{◌≡◌, ap, ap₂, ◌∙◌}
use mathlib.Core.Bool.{◌&&◌}
use native.Mathlib.Omega.{arith}
use lib.Dec.{leb}
use Rattle.algebra.specs.EveryLaws.{every_next}
use Rattle.load.specs.Load.{loads_fit}
use Rattle.load.specs.Blank.{none_blank}
use Rattle.load.proofs.judge_channels.Invariants.{reached, within}
use Rattle.load.proofs.judge_channels.Goals as goal

pub loop-m-preserved : goal.loop-m-preserved
loop-m-preserved c =
    let (reached-before, within-before) = c.loop-m.invariant in
    let a = c.args in
    let m = c.loop-m.m in
    let is-reached = c.judge_channel-judged.ensures.nonzero_value in
    let is_Within = c.judge_channel-judged.ensures.fits_value ∙ ap (leb _) c.load_limit-limit.ensures in (
      ap₂ ◌&&◌ reached-before is-reached ∙ every_next (reached a.layer a.kernel.now) m,
      ap₂ ◌&&◌ within-before is_Within ∙ every_next (within a.layer a.kernel.now) m,
    )

pub returns : goal.returns
unfolding none_blank loads_fit
returns c =
    let done : c.loop-m.m ≡ c.args.layer.outputs = omega arith in
    record { nonzero_value = rw (c.loop-m.invariant.0, done); fits_value = rw (c.loop-m.invariant.1, done) }
