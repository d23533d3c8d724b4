-- The sign of the weight tells the value: above 0, below 0, or 0.
use mathlib.Core.Path.{◌≡◌, refl, sym, ◌∙◌}
use mathlib.Core.Bool.{Bool, true, false, cond}
use native.Mathlib.Omega.{arith}
use lib.IntN.{pos, neg_ℤ, ◌-ℤ◌}
use lib.Signed.{lt_z}
use mir.Facts.{to_z-of_z, to_z_pos}
use mir.Syntax.{w16}
use mir.Val.{SFits, to_z, of_z}
use Rattle.std.proofs.Common.{Less, Equal, Greater}
use Rattle.algebra.specs.SignLaws.{zero_minus, mag_neg_pos}
use Rattle.worst.specs.WorstLaws.{value_above, value_below, value_none}
use Rattle.worst.proofs.values.value_for.Goals as goal
use Rattle.worst.proofs.values.value_for.Goals.{Start}

-- what an answer of the comparison says of its two tests
less_is : (less more : Bool) → Less ≡ cond less Less (cond more Greater Equal) → less ≡ true
less_is true more e = refl
less_is false true e = absurd (cc)
less_is false false e = absurd (cc)

greater_is : (less more : Bool) → Greater ≡ cond less Less (cond more Greater Equal) → more ≡ true
greater_is true more e = absurd (cc)
greater_is false true e = refl
greater_is false false e = absurd (cc)

equal_is : (less more : Bool) → Equal ≡ cond less Less (cond more Greater Equal) → (less ≡ false) × (more ≡ false)
equal_is true more e = absurd (cc)
equal_is false true e = absurd (cc)
equal_is false false e = (refl, refl)

-- the bits of the weight and of the peak say them
word : (s : Start) → to_z w16 (of_z w16 s.args.weight) ≡ s.args.weight
word s = to_z-of_z s.ranges.weight

high_is : (s : Start) → to_z w16 s.args.peak ≡ pos s.args.peak
high_is s = to_z_pos w16 (omega (arith, s.requires))

opposite : (s : Start) → pos 0 -ℤ to_z w16 s.args.peak ≡ neg_ℤ (pos s.args.peak)
opposite s = rw (high_is s) (zero_minus (pos s.args.peak))

opposite_fits : (s : Start) → SFits w16 (neg_ℤ (pos s.args.peak))
opposite_fits s = record { sfits = omega (arith, mag_neg_pos s.args.peak, s.requires) }

pub returns-in-Greater : goal.returns-in-Greater
returns-in-Greater c =
    let s = (goal.at.returns-in-Greater c).Start in
    high_is s ∙ sym (value_above c.args.peak c.args.weight (greater_is (lt_z c.args.weight (pos 0)) (lt_z (pos 0) c.args.weight) (rw (word s) at c.in-Greater.ensures)))

pub overflow_sub-result : goal.overflow_sub-result
overflow_sub-result c = rw (opposite (goal.at.overflow_sub-result c).Start) (opposite_fits (goal.at.overflow_sub-result c).Start)

pub returns-in-Less : goal.returns-in-Less
returns-in-Less c =
    let s = (goal.at.returns-in-Less c).Start in
    rw (opposite s) (to_z-of_z (opposite_fits s) ∙ sym (value_below c.args.peak c.args.weight (less_is (lt_z c.args.weight (pos 0)) (lt_z (pos 0) c.args.weight) (rw (word s) at c.in-Less.ensures))))

pub returns-in-Equal : goal.returns-in-Equal
returns-in-Equal c =
    let s = (goal.at.returns-in-Equal c).Start in
    let equal = equal_is (lt_z c.args.weight (pos 0)) (lt_z (pos 0) c.args.weight) (rw (word s) at c.in-Equal.ensures) in
    sym (value_none c.args.peak c.args.weight equal.1 equal.0)
