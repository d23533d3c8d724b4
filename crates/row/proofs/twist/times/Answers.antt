use Rattle.std.proofs.Common.{arith}
use Rattle.algebra.specs.CongruenceLaws.{◌⨟◌}
use Rattle.algebra.specs.EachWord.{words_none, words_next}
use Rattle.row.proofs.twist.times.Goals as goal

pub loop-j-init : goal.loop-j-init
loop-j-init c = words_none

pub product-requires : goal.product-requires
product-requires c =
    let j = c.loop-j.j in
    (omega (arith, c.loop-j.invariant.left j (omega arith), c.requires.1 j (omega arith)), c.requires.2 j (omega arith))

pub loop-j-preserved : goal.loop-j-preserved
loop-j-preserved c =
    let settled = c.settled.ensures in
    words_next _ (omega arith) c.loop-j.invariant (record { value = settled.value ⨟ c.product.ensures.value; bound = settled.bound })

pub returns : goal.returns
returns c j l = c.loop-j.invariant.done j (omega arith)
