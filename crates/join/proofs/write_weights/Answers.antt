-- Each weight was found to fit, so that the cast keeps it; the list that was written is the kernel, place by place.
use Rattle.std.proofs.Common.{◌≡◌, ◌∙◌, pos, length, arith, to_z-of_z, w16, w64, SFits, to_z, of_z, rules}
use borrow.Author.Rules.{sfits_of}
use Rattle.algebra.specs.PlacesLaws.{table_of}
use Rattle.layer.specs.Shape.{kernel_count}
use Rattle.joined.specs.Joined.{joined_layer, joined_at}
use Rattle.join.specs.AnswerLaws.{weight_fit}
use Rattle.join.proofs.Fits.{fit_sfits}
use Rattle.join.proofs.write_weights.Goals as goal
use Rattle.join.proofs.write_weights.Goals.{After-weight_at}

word : (c : After-weight_at) → to_z w64 (of_z w64 c.weight_at.result) ≡ c.weight_at.result
word c = to_z-of_z {w = w64} {z = c.weight_at.result} (sfits_of c.weight_at.type_inv)

weight_fits : (c : After-weight_at) → SFits w16 c.weight_at.result
weight_fits c =
    let a = c.args.filters.now in
    let fit = c.requires.second_kernel_value in
    rw c.weight_at.ensures.0
    (fit_sfits _ (weight_fit a.first a.first_kernel.now a.second a.second_kernel.now fit (omega (arith, c.requires.joined_len))))

pub overflow_cast-value : goal.overflow_cast-value
overflow_cast-value c = rw (word c) (weight_fits c)

pub loop-p-preserved : goal.loop-p-preserved
loop-p-preserved c =
    let a = c.args.filters.now in
    let made : to_z w16 (of_z w16 (to_z w64 (of_z w64 c.weight_at.result))) ≡ joined_at a.first a.first_kernel.now a.second a.second_kernel.now c.loop-p.p
    = rw (word c) (to_z-of_z (weight_fits c) ∙ c.weight_at.ensures.0) in
    search rules

pub returns : goal.returns
returns c =
    let loop = c.loop-p in
    let count : length loop.joined ≡ kernel_count (joined_layer c.args.filters.now.first c.args.filters.now.second) = omega (arith, c.requires.joined_len) in
    table_of (pos 0) _ _ loop.joined count (λ p l. loop.invariant p (omega arith))
