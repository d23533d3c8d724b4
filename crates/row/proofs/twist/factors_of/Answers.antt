use Rattle.std.proofs.Common.{refl, arith}
use Rattle.algebra.specs.EachWord.{words_none, words_next}
use Rattle.row.proofs.twist.factors_of.Goals as goal

pub loop-j-init : goal.loop-j-init
loop-j-init c = (refl, words_none)

pub loop-j-preserved : goal.loop-j-preserved
loop-j-preserved c =
    let (size, done) = c.loop-j.invariant in
    (size, words_next _ (omega (arith, done.same_length)) done (c.power.ensures.value, c.power.ensures.below))

pub returns : goal.returns
returns c =
    let (size, done) = c.loop-j.invariant in
    record {
      value = λ j l. (done.done j (omega (arith, done.same_length))).0;
      below = λ j l. (done.done j (omega (arith, done.same_length))).1;
    }
