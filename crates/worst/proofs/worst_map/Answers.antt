-- `worst_map` joins the checks, the output that the map is made for, and the map.
use mathlib.Core.Path.{◌≡◌, sym, ap, ◌∙◌}
use native.Mathlib.Omega.{arith}
use lib.ListN.{length}
use Rattle.base.specs.RulesLaws.{outcome_made, outcome_lent}
use Rattle.base.specs.RefusalsLaws.{number_above}
use Rattle.layer.specs.Shape.{map_count}
use Rattle.worst.specs.Answer.{worst_code}
use Rattle.worst.specs.Worst.{map_for}
use Rattle.worst.specs.Accepted.{Accepted}
use Rattle.worst.specs.AcceptedLaws.{worst_made_for}
use Rattle.worst.specs.AnswerLaws.{accepted}
use Rattle.worst.proofs.worst_map.Goals as goal
use Rattle.worst.proofs.worst_map.Goals.{In-Ok}

-- no rule is broken
passed_all : (c : In-Ok) → let a = c.args in Accepted a.layer a.kernel.now × (length a.map.now ≡ map_count a.layer)
passed_all c = accepted _ _ _ (sym c.in-Ok.ensures)

pub worst_output-output-requires : goal.worst_output-output-requires
worst_output-output-requires c = (passed_all c).0

pub write_map-requires : goal.write_map-requires
write_map-requires c =
    let passed = passed_all (goal.at.write_map-requires c).In-Ok in
    (rw c.worst_output-output.ensures (worst_made_for _ _ passed.0), passed.1)

pub returns-in-Ok : goal.returns-in-Ok
returns-in-Ok c =
    let a = c.args in
    record {
      value = c.in-Ok.ensures;
      map_after = c.write_map.ensures ∙ ap (map_for a.layer a.kernel.now) c.worst_output-output.ensures ∙ sym (outcome_made _ _ (sym c.in-Ok.ensures));
    }

pub returns-in-Err : goal.returns-in-Err
returns-in-Err c =
    let a = c.args in
    record {
      value = c.number.ensures ∙ c.in-Err.ensures;
      map_after = sym (outcome_lent _ _ (worst_code a.layer a.kernel.now (length a.map.now)) (λ (e : worst_code a.layer a.kernel.now (length a.map.now) ≡ 0).
          omega (arith, number_above c.in-Err.refusal, c.in-Err.ensures ∙ e)));
    }
