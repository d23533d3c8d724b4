-- Rule by rule: a broken one is handed on, and the later ones decide where it is kept.
use mathlib.Core.Path.{◌≡◌, sym}
use mathlib.Core.List.{[], ◌∷◌}
use Prim.Native.Nat.{◌≤◌}
use Rattle.base.specs.RefusalsLaws.{handed_on, required-steps}
use Rattle.base.specs.Rules.{first_broken}
use Rattle.base.specs.RulesLaws.{none_broken, inside_high}
use Rattle.transform.specs.Answer.{field_rule, transform_code}
use Rattle.transform.proofs.check.Goals as goal
use Rattle.transform.proofs.check.Goals.{In_ok-require}

pub returns-in_err-require : goal.returns-in_err-require
unfolding transform_code
returns-in_err-require c = handed_on _ _ c.from_residual.ensures (search required-steps depth 20 fits 4000)

pub returns-in_err-require-2 : goal.returns-in_err-require-2
unfolding transform_code
returns-in_err-require-2 c = handed_on _ _ c.from_residual-in_err-require-2.ensures (search required-steps depth 20 fits 4000)

-- where the first rule is kept, the field is at most 5
field_high : (c : In_ok-require) → c.args.field ≤ 5
field_high c =
    let kept : 0 ≡ first_broken (field_rule c.args.field ∷ []) = search required-steps depth 20 fits 4000 in
    inside_high 4 5 c.args.field (none_broken (field_rule c.args.field ∷ []) tt (sym kept)).0

pub transform_length-requires : goal.transform_length-requires
transform_length-requires c = field_high c

pub modulus_of-requires : goal.modulus_of-requires
modulus_of-requires c = field_high (goal.at.modulus_of-requires c).In_ok-require

pub returns : goal.returns
unfolding transform_code
returns c =
    let residues = rw c.modulus_of.ensures at c.all_below.ensures in search required-steps depth 20 fits 4000
