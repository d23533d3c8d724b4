use mathlib.Core.Path.{◌≡◌, ◌∙◌}
use Prim.Native.Nat.{◌+◌, ◌-◌, ◌*◌, ◌≤◌}
use native.Mathlib.Nat.{mul-le-mul_left}
use native.Mathlib.Omega.{arith}
use lib.ListN.{length}
use borrow.Rule.Slice.PartMut.{same_len_mid}
use Rattle.passes.specs.PartLaws.{part_length, part_most}
use Rattle.spectrum.specs.Product.{factor_most}
use Rattle.row.proofs.TwistedRows.{twisting_none, twisting_more}
use Rattle.row.proofs.twist.twist.Goals as goal
use Rattle.row.proofs.twist.twist.Goals.{After-frequency, At-loop-r, In-loop-r}

-- the step of a row's exponents
step : (c : After-frequency) → c.args.unit * c.frequency.result ≤ 4096
step c =
    let low : c.frequency.result ≤ 16 = omega (arith, c.frequency.ensures) in
    omega (arith, mul-le-mul_left c.args.unit low, c.requires.1)

-- the row lies within the words
lent : (c : At-loop-r) → 16 * c.loop-r.r + 16 - 16 * c.loop-r.r ≡ 16
lent c = omega arith

fits : (c : In-loop-r) →
    let loop = c.loop-r in
    16 * loop.r + (16 * loop.r + 16 - 16 * loop.r) ≤ length loop.words
fits c = omega (arith, lent c.before, c.loop-r-test.true, c.loop-r.invariant.0)

pub loop-r-init : goal.loop-r-init
loop-r-init c = (c.requires.0, twisting_none c.args.unit c.args.words.now)

pub overflow_mul-unit : goal.overflow_mul-unit
overflow_mul-unit c = omega (arith, step c)

pub factors_of-factors-requires : goal.factors_of-factors-requires
factors_of-factors-requires c = step c

pub times-requires : goal.times-requires
times-requires c =
    let loop = c.loop-r in
    let size = 16 * loop.r + 16 - 16 * loop.r in
    let here = (goal.at.times-requires c).In-loop-r in
    let most = part_most (16 * loop.r) size loop.words (fits here) (factor_most 4)
    (λ i l. let p = 16 * loop.r + i in
    omega (arith, loop.invariant.1.rest p (omega arith), c.requires.2 p (omega (arith, loop.invariant.0, c.requires.0, fits here)))) in
    let long = part_length (16 * loop.r) size loop.words (fits here) ∙ lent (goal.at.times-requires c).At-loop-r in
    (long, most, λ j l. omega (arith, c.factors_of-factors.ensures.below j l))

pub loop-r-preserved : goal.loop-r-preserved
loop-r-preserved c =
    let loop = c.loop-r in
    let a = c.args in
    let size = 16 * loop.r + 16 - 16 * loop.r in
    let us = c.times.new.words in
    let kept = c.times.auto.words in
    let factors = rw c.frequency.ensures at c.factors_of-factors.ensures in
    let at = goal.at.loop-r-preserved c in
    let within = fits at.In-loop-r in (
      same_len_mid (16 * loop.r) size loop.words us kept ∙ loop.invariant.0,
      twisting_more a.unit loop.r size a.words.now loop.words us c.factors_of-factors.result (lent at.At-loop-r) within
          (kept ∙ part_length (16 * loop.r) size loop.words within) loop.invariant.1 factors c.times.ensures,
    )

pub returns : goal.returns
returns c =
    let loop = c.loop-r in
    let all : loop.r ≡ 16 = omega (arith, c.loop-r-test.false, loop.invariant.0) in
    rw all at loop.invariant.1.done
