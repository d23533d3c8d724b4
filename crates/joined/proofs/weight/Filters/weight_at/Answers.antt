-- The total is over the middle channels; the place is that of p.
use Rattle.std.proofs.Common.{◌≡◌, ◌∙◌, ℕ, ◌+◌, ◌*◌, ◌-◌, ◌/◌, ◌%◌, ◌^◌, ◌<◌, ◌≤◌, mod-lt, div-lt_iff_lt-mul, mul-le-mul, length, arith, to_z-of_z, w64, rules}
use borrow.Author.Rules.{sfits_of}
use Rattle.algebra.specs.SumLaws.{integers, sum_cong}
use Rattle.joined.specs.Joinable.{Joinable}
use Rattle.joined.specs.Joined.{joined_weight, joined_at}
use Rattle.joined.specs.Products.{place_of, middle_sum}
use Rattle.joined.specs.ProductsLaws.{plane_is}
use Rattle.joined.proofs.weight.Filters.weight_at.Goals as goal

pub total-requires-clause-called : goal.total-requires-clause-called
total-requires-clause-called c =
    let f = c.args.self.now in
    let both : Joinable f.first (length f.first_kernel.now) f.second (length f.second_kernel.now) = search rules in
    let side : ℕ = f.first.side + f.second.side - 1 in
    let side_low : 1 ≤ side = omega (arith, both.first_kept.filter.side_low, both.second_kept.filter.side_low) in
    let area_low : 1 ≤ side * side = mul-le-mul {n₁ = 1} {m₁ = 1} side_low side_low in
    let placed : c.place_of-place.result ≡ place_of f.first.inputs side c.args.p = rw c.joined_layer-joined.ensures at c.place_of-place.ensures in
    -- its channels are in range, and its row and column too
    let input : c.place_of-place.result.input < f.first.inputs = rw placed (mod-lt _ both.first_kept.inputs_low) in
    let output : c.place_of-place.result.output < f.second.outputs
    = rw placed ((div-lt_iff_lt-mul both.first_kept.inputs_low).1 ((div-lt_iff_lt-mul area_low).1 c.requires)) in
    let row_small : c.args.p % (side * side) / side < side = (div-lt_iff_lt-mul side_low).1 (mod-lt _ area_low) in
    let row : c.place_of-place.result.row < f.first.side + f.second.side = rw placed (omega (arith, row_small)) in
    let column_small : c.args.p % (side * side) % side < side = mod-lt _ side_low in
    let column : c.place_of-place.result.column < f.first.side + f.second.side = rw placed (omega (arith, column_small)) in
    λ n low below. search rules

pub returns : goal.returns
unfolding joined_at joined_weight middle_sum
returns c =
    let f = c.args.self.now in
    let both : Joinable f.first (length f.first_kernel.now) f.second (length f.second_kernel.now) = search rules in
    let few = both.first_kept.outputs_high in
    let term = middle_sum f.first f.first_kernel.now f.second f.second_kernel.now c.place_of-place.result in
    let placed : c.place_of-place.result ≡ place_of f.first.inputs (f.first.side + f.second.side - 1) c.args.p
    = rw c.joined_layer-joined.ensures at c.place_of-place.ensures in
    let given = c.total.ensures.is term (λ n value l k p. search rules) (λ n l. absurd (omega arith)) in
    rw (to_z-of_z {w = w64} {z = c.total.result} (sfits_of c.total.type_inv)) (
      (rw placed at given) ∙ sum_cong integers f.first.outputs _ _ (λ n _. plane_is f.first.side f.second.side _ _ _ _ _ _),
      omega (arith, few, c.total.ensures.small (121 * 2 ^ 30) (λ n value l k p. search rules)),
    )
