-- Where the check passes, both layers are filters that may be joined, and every weight fits.
use Rattle.std.specs.Prelude.{◌≡◌, length}
use Rattle.std.proofs.Common.{arith}
use Rattle.join.specs.Answer.{join_code}
use Rattle.join.specs.AnswerLaws.{accepted, joinable}
use Rattle.join.proofs.join.Goals as goal

pub invariant_of-filters : goal.invariant_of-filters
invariant_of-filters c =
    let a = c.args in
    let room = length a.joined.now in
    let none : join_code a.first a.first_kernel.now a.second a.second_kernel.now room ≡ 0 = grind arith in
    let (shape, _) = accepted a.first a.first_kernel.now a.second a.second_kernel.now room none in
    record { joinable = (joinable a.first (length a.first_kernel.now) a.second (length a.second_kernel.now) room shape).0 }

pub write_weights-requires : goal.write_weights-requires
write_weights-requires c =
    let a = c.args in
    let room = length a.joined.now in
    let none : join_code a.first a.first_kernel.now a.second a.second_kernel.now room ≡ 0 = grind arith in
    let (shape, weights) = accepted a.first a.first_kernel.now a.second a.second_kernel.now room none in
    record {
      joined_len = (joinable a.first (length a.first_kernel.now) a.second (length a.second_kernel.now) room shape).1;
      second_kernel_value = weights;
    }
