-- Both planes lie within their kernels: [n][c] of the first, [m][n] of the second.
use Rattle.std.proofs.Common.{◌≡◌, ap, ℕ, ◌+◌, ◌*◌, ◌<◌, length, to_z-of_z, w64, rules}
use Rattle.std.proofs.Math.Arith.{digits_lt}
use borrow.Author.Rules.{sfits_of}
use Rattle.algebra.specs.PlacesLaws.{part_ends}
use Rattle.layer.specs.Shape.{kernel_count}
use Rattle.joined.specs.Joinable.{Joinable}
use Rattle.joined.specs.Products.{middle_sum}
use Rattle.joined.proofs.weight.Filters.middle_sum.Goals as goal

pub plane_sum-requires-clause-planes_held : goal.plane_sum-requires-clause-planes_held
plane_sum-requires-clause-planes_held c =
    let f = c.args.self.now in
    let both : Joinable f.first (length f.first_kernel.now) f.second (length f.second_kernel.now) = search rules in
    let first = f.first in
    let second = f.second in
    let from_inside : c.args.n * first.inputs + c.args.place.input < first.outputs * first.inputs
    = digits_lt c.requires.input_lt_inputs.2 c.requires.input_lt_inputs.0 in
    let to_inside : c.args.place.output * first.outputs + c.args.n < second.outputs * first.outputs
    = digits_lt c.requires.input_lt_inputs.1 c.requires.input_lt_inputs.2 in
    -- the second kernel's planes, counted with the first's channels
    let second_count : second.outputs * first.outputs * (second.side * second.side) ≡ kernel_count second
    = ap (λ (channels : ℕ). second.outputs * channels * (second.side * second.side)) both.channels in
    rw (c.plane_of-one.ensures, c.plane_of-other.ensures) (record {
      first_held = rw both.first_kept.weights_are (part_ends _ (first.outputs * first.inputs) (first.side * first.side) from_inside);
      second_held = rw (both.second_kept.weights_are, ← second_count) (part_ends _ (second.outputs * first.outputs) (second.side * second.side) to_inside);
      side_high = both.first_kept.side_high;
      other_low = both.second_kept.filter.side_low;
    })

pub returns : goal.returns
unfolding middle_sum
returns c =
    let made = rw (c.plane_of-one.ensures, c.plane_of-other.ensures) at c.plane_sum.ensures.0 in
    rw (to_z-of_z {w = w64} {z = c.plane_sum.result} (sfits_of c.plane_sum.type_inv)) (made, c.plane_sum.ensures.1)
