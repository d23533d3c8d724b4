-- Laws of what a check finds: what `?` hands on of a refusal without a place, and of one that has its place.
use Rattle.std.specs.Prelude.{◌≡◌, List, ℕ, ℤ, T, Result, Ok, Err}
use Rattle.std.specs.Result.{IsErr, IsErrAnd}
use Rattle.std.proofs.Common.{ap, ◌∙◌}
use Rattle.base.specs.declared.rules.Refusal.{Refusal}
use Rattle.base.specs.Refusals.{number_of}
use Rattle.base.specs.Rules.{Rule, first_broken}
use Rattle.layer.specs.declared.shape.Layer.{Layer}
use Rattle.load.specs.Offender.{no_offender}
use Rattle.checks.specs.declared.calls.Refused.{Refused}
use Rattle.checks.specs.Checks.{offender_with}
use Rattle.checks.specs.Found.{found}
use Rattle.checks.specs.OffenderLaws.{placeless, zeros_with}

-- a refusal that `?` turned into one with zeros
abbrev pub Placed : (result : Result (Unit {0}) Refused) (broken : Refusal) → Type 0
Placed result broken = IsErr result × IsErrAnd result (λ (r : Refused). (r.refusal ≡ broken) × (r.offender ≡ no_offender))

pub found_code : (result : Result (Unit {0}) Refused) (broken : Refusal) {code : ℕ} → Placed result broken → number_of broken ≡ code
    → (found result).code ≡ code
found_code (Ok passed) broken (fails, same) n = absurd same
found_code (Err refused) broken (fails, (same, none)) n = ap number_of same ∙ n

-- it stands with zeros, where the rules are none that tell a place
pub found_place : (l : Layer) (map : List ℤ) (rules : List Rule) → T (placeless rules) → (result : Result (Unit {0}) Refused) (broken : Refusal)
    → Placed result broken → number_of broken ≡ first_broken rules → (found result).offender ≡ offender_with (found result).code l map
found_place l map rules other (Ok passed) broken (fails, same) n = absurd same
found_place l map rules other (Err refused) broken (fails, (same, none)) n = zeros_with l map rules other (ap number_of same ∙ n) none

-- one that `?` hands on as it is
pub found_same : (result : Result (Unit {0}) Refused) (refused : Refused) → IsErr result × IsErrAnd result (λ (r : Refused). r ≡ refused)
    → found result ≡ found (Err refused)
found_same (Ok passed) refused (fails, same) = absurd same
found_same (Err other) refused (fails, same) = ap (λ (r : Refused). found (Err r)) same
