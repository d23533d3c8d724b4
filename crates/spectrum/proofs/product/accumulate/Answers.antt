use Rattle.std.proofs.Common.{Bool, true, false, cond, eqb, ℕ, ◌+◌, ◌≤◌, arith}
use Rattle.algebra.specs.CongruenceLaws.{c_refl, c_add}
use Rattle.algebra.specs.EachWord.{words_none, words_next}
use Rattle.spectrum.specs.Product.{product_most}
use Rattle.spectrum.proofs.product.accumulate.Goals as goal

product_most_lem : (t : ℕ) → product_most t ≤ 18014948269490176
product_most_lem t = go (eqb t 4)
  where
    go : (b : Bool) → cond b 18014948269490176 70377401237505 ≤ 18014948269490176
    go true = omega arith
    go false = omega arith

pub loop-i-init : goal.loop-i-init
loop-i-init g c = words_none

-- in a turn, a word of the second or the third part is as it was lent
pub product-requires : goal.product-requires
product-requires g c =
    let i = c.loop-i.i in
    let count = c.args.count in
    let kept = c.loop-i.invariant.left in
    let most = c.requires.by_index_2 in
    let second = count + i in
    let third = count + (count + i) in
    (rw (kept second (omega arith)) (most second (omega arith) (omega arith)), rw (kept third (omega arith)) (most third (omega arith) (omega arith)))

pub overflow_add-scratch : goal.overflow_add-scratch
overflow_add-scratch g c =
    let i = c.loop-i.i in
    omega (arith, c.loop-i.invariant.left i (omega arith), c.requires.by_index i (omega arith), c.product.ensures.bound, product_most_lem g.F.Field.number)

pub loop-i-preserved : goal.loop-i-preserved
loop-i-preserved g c =
    let i = c.loop-i.i in
    let count = c.args.count in
    let done = c.loop-i.invariant in
    let made = rw (done.left (count + i) (omega arith), done.left (count + (count + i)) (omega arith)) at c.product.ensures in
    words_next _ (omega arith) done (record { value = c_add c_refl made.value; bound = omega (arith, made.bound) })

pub returns : goal.returns
returns g c =
    let all = c.loop-i.invariant in
    record {
      sum = λ i l. (all.done i (omega arith)).value;
      bound = λ i l. (all.done i (omega arith)).bound;
      kept = λ i l. all.left i (omega arith);
    }
