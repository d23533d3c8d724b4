-- In a turn the lowest bit of q goes over to r, which is at most the result.
use mathlib.Core.Path.{◌≡◌, sym, ◌∙◌}
use Prim.Native.Nat.{ℕ, zero, suc, ◌+◌, ◌-◌, ◌*◌, ◌/◌, ◌%◌, ◌^◌, ◌<◌, ◌≤◌}
use native.Mathlib.Nat.{two-pow-succ, mul-le-mul_left}
use native.Mathlib.Omega.{arith}
use lib.Pow.{pow_pos, pow_mono}
use Rattle.passes.specs.Order.{reversed}
use Rattle.passes.specs.OrderLaws.{reversed_lt}
use Rattle.passes.proofs.order.reverse.Goals as goal
use Rattle.passes.proofs.order.reverse.Goals.{In-loop}

-- the lowest of t bits of q goes over to r
over : (t r q : ℕ) → 0 < t → r * 2 ^ t + reversed t q ≡ (2 * r + q % 2) * 2 ^ (t - 1) + reversed (t - 1) (q / 2)
unfolding reversed
over zero r q pos = absurd (omega arith)
over (suc t) r q pos =
    let e : suc t - 1 ≡ t = omega arith in rw (e, two-pow-succ t) (omega arith)

-- no bit is left
none : (t r q : ℕ) → t ≤ 0 → r * 2 ^ t + reversed t q ≡ r
unfolding reversed
none zero r q l = omega arith
none (suc t) r q l = absurd (omega arith)

-- r is at most the result
small : (c : In-loop) → c.loop.r < 64
small c =
    let halvings = c.args.halvings in
    let loop = c.loop in
    let le : loop.r * 1 ≤ loop.r * 2 ^ (halvings - loop.counter) = mul-le-mul_left loop.r (pow_pos (halvings - loop.counter)) in
    omega (arith, reversed_lt halvings c.args.k c.requires.0, pow_mono {i = halvings} {j = 6} c.requires.1)

pub loop-init : goal.loop-init
loop-init c = let whole : c.args.halvings - 0 ≡ c.args.halvings = omega arith in rw whole (omega arith)

pub overflow_mul-r : goal.overflow_mul-r
overflow_mul-r c = omega (arith, small c)

pub overflow_add-r : goal.overflow_add-r
overflow_add-r c = omega (arith, small c)

pub loop-preserved : goal.loop-preserved
loop-preserved c =
    let loop = c.loop in
    let left : ℕ = c.args.halvings - loop.counter in
    let next : c.args.halvings - (loop.counter + 1) ≡ left - 1 = omega arith in
    rw next (loop.invariant ∙ over left loop.r loop.q (omega arith))

pub returns : goal.returns
returns c =
    let loop = c.loop in
    sym (loop.invariant ∙ none (c.args.halvings - loop.counter) loop.r loop.q (omega arith))
