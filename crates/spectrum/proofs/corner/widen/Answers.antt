use Rattle.std.proofs.Common.{◌≡◌, refl, ◌+◌, ◌-◌, ◌*◌, ◌≤◌, length, ◌∙◌, mul-le-mul_right, arith}
use Rattle.passes.specs.PartLaws.{part_length}
use Rattle.spectrum.proofs.Widening.{widen_next, widened}
use Rattle.spectrum.proofs.corner.widen.Goals as goal

pub loop-r-preserved : goal.loop-r-preserved
loop-r-preserved c = widen_next _ _ _ c.requires.1 (omega arith) c.loop-r.invariant c.widen_row.ensures

pub returns : goal.returns
returns c =
    let a = c.args in
    let at = a.k * a.n in
    let size = length c.loop-r.words - at in
    let last : c.loop-r.r ≡ a.k = omega arith in
    let rows = rw last at c.loop-r.invariant in
    let inside : at ≤ a.n * a.n = mul-le-mul_right a.n (omega (arith, c.requires.1)) in
    let whole : at + size ≡ a.n * a.n = omega (arith, rows.same_length, c.requires.0) in
    let long = part_length at size c.loop-r.words (omega (arith, rows.same_length, c.requires.0)) in
    widened a.n a.k size c.fill.new.self (omega (arith, c.requires.1)) c.requires.0 whole rows (c.fill.ensures.len ∙ long)
    (λ i l. c.fill.ensures.clones i 0 (rw long l) refl)
