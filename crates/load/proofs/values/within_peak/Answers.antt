use mathlib.Core.Path.{◌≡◌, ap, ◌∙◌}
use native.Mathlib.Omega.{arith}
use borrow.Author.Rules.{sfits_of}
use borrow.Author.Tests.{le-leb}
use lib.IntN.{ℤ, pos}
use lib.ListN.{get_or}
use mir.Facts.{to_z-of_z}
use mir.Syntax.{w16}
use mir.Val.{to_z, of_z}
use Rattle.std.specs.Int.{int_min, int_max}
use Rattle.load.specs.Load.{within_peak}
use Rattle.load.proofs.Peaks.{both_within, pass_next, pass_all}
use Rattle.load.proofs.values.within_peak.Goals as goal
use Rattle.load.proofs.values.within_peak.Goals.{After-loop-v}

-- in a turn: the value that is read, and that its bits say it
pub loop-v-preserved : goal.loop-v-preserved
loop-v-preserved c =
    let value : ℤ = get_or c.args.map.now c.loop-v.v-index (pos 0) in
    let bits : to_z w16 (of_z w16 value) ≡ value = to_z-of_z {w = w16} (search sfits_of) in
    let low : to_z w16 (of_z w16 c.min-low.result) ≡ int_min (to_z w16 c.loop-v.low-bits) value =
    to_z-of_z {w = w16} (search sfits_of) ∙ c.min-low.ensures.value ∙ ap (int_min (to_z w16 c.loop-v.low-bits)) bits in
    let high : to_z w16 (of_z w16 c.max-high.result) ≡ int_max (to_z w16 c.loop-v.high-bits) value =
    to_z-of_z {w = w16} (search sfits_of) ∙ c.max-high.ensures.value ∙ ap (int_max (to_z w16 c.loop-v.high-bits)) bits in
    pass_next c.loop-v.v-index (omega arith) c.loop-v.invariant low high

-- the sizes of the two decide
decided : (c : After-loop-v)
    → within_peak c.args.peak c.args.map.now ≡ both_within c.args.peak (to_z w16 c.loop-v.low-bits) (to_z w16 c.loop-v.high-bits)
decided c = pass_all c.loop-v-test.false c.loop-v.invariant

pub returns-then-from-peak : goal.returns-then-from-peak
returns-then-from-peak c =
    let k = decided (goal.at.returns-then-from-peak c).After-loop-v in
    rw (k, ← c.unsigned_abs.ensures.value, ← c.from.ensures, le-leb _ _ c.if-from-peak.true, c.from-then-from-peak.ensures, c.unsigned_abs-then-from-peak.ensures.value)
