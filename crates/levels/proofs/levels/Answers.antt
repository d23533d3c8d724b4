-- Where the check passes, the shift, the bound and the lengths are in range.
use Rattle.std.proofs.Common.{arith}
use Rattle.levels.specs.AnswerLaws.{accepted}
use Rattle.levels.proofs.levels.Goals as goal

pub write_levels-requires : goal.write_levels-requires
write_levels-requires c =
    let ok = accepted c.args.shift c.args.bound _ _ (grind arith) in
    (ok.shift_high, ok.bound_high, ok.as_many)
