-- The list that was written is that of the levels, place by place.
use Rattle.std.proofs.Common.{◌≡◌, ◌∙◌, sym, length, pos, ext_get_or, arith}
use Rattle.std.proofs.lemmas.List.{length-map, get_or-map}
use Rattle.levels.specs.Level.{level}
use Rattle.levels.specs.Answer.{levels_of}
use Rattle.levels.proofs.write_levels.Goals as goal

pub returns : goal.returns
returns c =
    let a = c.args in
    let outputs = a.outputs.now in
    let long : length c.loop-i.levels ≡ length outputs = omega arith in
    ext_get_or (pos 0) c.loop-i.levels (levels_of a.shift a.bound outputs)
    (long ∙ sym (length-map outputs (level a.shift a.bound)))
    (λ k l. c.loop-i.invariant k (omega arith) ∙ sym (get_or-map (level a.shift a.bound) outputs k (pos 0) (pos 0) (omega arith)))
