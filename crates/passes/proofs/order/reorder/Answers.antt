-- An index is exchanged with its reverse where it is the lower of the two, by the laws of exchanges and of `reversed`.
use mathlib.Core.Path.{refl, sym, ◌∙◌}
use native.Mathlib.Omega.{arith}
use Rattle.passes.specs.OrderLaws.{reversed_lt, reversed_involution}
use Rattle.passes.proofs.Exchange.{exchange_none, exchange_step, exchange_skip, exchange_all}
use Rattle.passes.proofs.order.reorder.Goals as goal
use Rattle.passes.proofs.order.reorder.Goals.{then-k-p, else-k-p}

pub loop-k-init : goal.loop-k-init
loop-k-init c = exchange_none (reversed_involution c.args.halvings) c.requires.0 (λ k above below. absurd (omega arith))

pub swap-requires-clause-b_in_bounds : goal.swap-requires-clause-b_in_bounds
swap-requires-clause-b_in_bounds c = omega (arith, reversed_lt c.args.halvings c.loop-k.k (omega arith))

pub loop-k-preserved : goal.loop-k-preserved
loop-k-preserved c =
    let i = reversed_involution c.args.halvings in
    let e = sym c.reverse-p.ensures in
    elim c.if-k-p.branch [
      | then-k-p w ↦ exchange_step i c.requires.0 c.loop-k.invariant (omega arith) refl e w.if-k-p.true (omega arith) (w.words-is ∙ w.swap.ensures.after)
      | else-k-p w ↦ rw w.words-is (exchange_skip i c.requires.0 c.loop-k.invariant (omega arith) (omega arith))
    ]

pub returns : goal.returns
returns c = exchange_all _ (omega arith) c.loop-k.invariant
