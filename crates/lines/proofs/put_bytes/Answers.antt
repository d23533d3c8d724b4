-- `put_bytes`: the bytes stand in the part of the buffer that they are copied to.
use Rattle.std.proofs.Common.{refl, rules, ◌≤◌, length, arith}
use Rattle.std.proofs.lemmas.Slice.{overwrites}
use Rattle.lines.proofs.put_bytes.Goals as goal

pub returns : goal.returns
returns c =
    let room : c.args.at ≤ length c.args.lines.now = omega arith in
    record {
      same_length = search (rules, overwrites);
      ends = refl;
      shown = search (rules, overwrites);
      after = search (rules, overwrites);
    }
