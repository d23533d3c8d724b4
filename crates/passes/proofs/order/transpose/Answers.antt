-- Row after row is exchanged, by the laws of exchanges.
use mathlib.Core.Path.{◌≡◌, ap}
use Prim.Native.Nat.{ℕ, ◌*◌}
use native.Mathlib.Omega.{arith}
use Rattle.passes.specs.Order.{across}
use Rattle.passes.specs.OrderLaws.{across_involution}
use Rattle.passes.proofs.Exchange.{exchange_none, exchange_then, exchange_all}
use Rattle.passes.proofs.order.transpose.Goals as goal

pub loop-r-init : goal.loop-r-init
loop-r-init c = exchange_none (across_involution c.args.n) c.requires (λ k above below. absurd (omega arith))

pub loop-r-preserved : goal.loop-r-preserved
loop-r-preserved c =
    exchange_then (across_involution c.args.n) c.requires c.loop-r.invariant c.swap_row.ensures (omega arith) (omega arith)

pub returns : goal.returns
returns c =
    let n = c.args.n in
    let loop = c.loop-r in
    let last : loop.r ≡ n = omega arith in
    exchange_all (across n) (omega (arith, ap (λ (r : ℕ). r * n) last)) loop.invariant
