-- In a turn, both places lie within the square, and the one above the diagonal comes first.
use mathlib.Core.Path.{◌≡◌, ap, ◌∙◌}
use Prim.Native.Nat.{ℕ, ◌+◌, ◌-◌, ◌*◌, ◌<◌, ◌≤◌}
use native.Mathlib.Decide.{dec_lt}
use native.Mathlib.Omega.{arith}
use Rattle.passes.specs.Order.{across}
use Rattle.passes.specs.OrderLaws.{place_lt, above_lt, across_place, across_involution}
use Rattle.passes.proofs.Exchange.{exchange_none, exchange_step}
use Rattle.passes.proofs.order.swap_row.Goals as goal
use Rattle.passes.proofs.order.swap_row.Goals.{In-loop-k}

-- a place up to the diagonal is not the lower of two
not_lower : (n r p : ℕ) → r < n → r * n ≤ p → p < r * n + (r + 1) → across n p ≤ p
not_lower n r p l above below = go (dec_lt c r)
  where
    c : ℕ
    c = p - r * n

    e : p ≡ r * n + c
    e = omega arith

    other : across n p ≡ c * n + r
    other = ap (across n) e ∙ across_place r c (omega arith)

    go : Dec (c < r) → across n p ≤ p
    go (yes left) = omega (arith, other, above_lt c r left l)
    go (no left) = let same : c ≡ r = omega arith in omega (arith, other, ap (λ (x : ℕ). x * n) same)

-- in a turn, both places of an exchange lie within the square
module _ (c : In-loop-k) where
  inside : let a = c.args in let k = c.loop-k.k in (a.r * a.n + k < a.n * a.n) × (k * a.n + a.r < a.n * a.n)
  inside =
      let k = c.loop-k.k in
      (place_lt c.args.r k c.requires.1 c.loop-k-test.true, place_lt k c.args.r c.loop-k-test.true c.requires.1)

pub loop-k-init : goal.loop-k-init
loop-k-init c = exchange_none (across_involution c.args.n) c.requires.0 (λ p. not_lower c.args.n c.args.r p c.requires.1)

pub overflow_mul-r : goal.overflow_mul-r
overflow_mul-r c = omega (arith, inside (goal.at.overflow_mul-r c).In-loop-k)

pub overflow_add-r : goal.overflow_add-r
overflow_add-r c = omega (arith, inside (goal.at.overflow_add-r c).In-loop-k)

pub overflow_mul-k : goal.overflow_mul-k
overflow_mul-k c = omega (arith, inside (goal.at.overflow_mul-k c).In-loop-k)

pub overflow_add-k : goal.overflow_add-k
overflow_add-k c = omega (arith, inside (goal.at.overflow_add-k c).In-loop-k)

pub loop-k-preserved : goal.loop-k-preserved
loop-k-preserved c =
    let loop = c.loop-k in
    let short = c.loop-k-test.true in
    exchange_step (across_involution c.args.n) c.requires.0 loop.invariant (omega arith) (omega arith) (across_place c.args.r loop.k short)
    (above_lt c.args.r loop.k (omega arith) short) (inside (goal.at.loop-k-preserved c).In-loop-k).0 c.swap.ensures.after

pub returns : goal.returns
returns c =
    let a = c.args in
    let e : a.r * a.n + c.loop-k.k ≡ (a.r + 1) * a.n = omega arith in
    rw e at c.loop-k.invariant
