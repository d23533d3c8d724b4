-- In a turn the total has one term more, which the call gave.
use Rattle.std.proofs.Common.{to_z-of_z}
use borrow.Author.Rules.{sfits_of}
use Rattle.joined.proofs.Totals.{total_none, total_more, total_fits}
use Rattle.joined.proofs.sums.total.Goals as goal

pub loop-j-init : goal.loop-j-init
loop-j-init g c = total_none

pub overflow_add-sum : goal.overflow_add-sum
overflow_add-sum g c =
    let loop = c.loop-j in
    rw (to_z-of_z {z = c.term-sum.result} (sfits_of c.term-sum.type_inv))
    (total_fits loop.invariant loop.auto.j c.term-sum.result c.term-sum.ensures c.loop-j-test.true c.requires.small.1 c.requires.small.2)

pub loop-j-preserved : goal.loop-j-preserved
loop-j-preserved g c =
    let loop = c.loop-j in
    rw (
      to_z-of_z {z = c.term-sum.result} (sfits_of c.term-sum.type_inv),
      to_z-of_z (total_fits loop.invariant loop.auto.j c.term-sum.result c.term-sum.ensures c.loop-j-test.true c.requires.small.1 c.requires.small.2),
    )
    (total_more loop.invariant loop.auto.j c.term-sum.result c.term-sum.ensures)
