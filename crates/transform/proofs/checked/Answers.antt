-- A call that is refused leaves the words, and an accepted one is the operation's.
use mathlib.Core.Path.{◌≡◌, sym, ◌∙◌}
use native.Mathlib.Omega.{arith}
use Rattle.base.specs.Refusals.{number_of}
use Rattle.base.specs.RefusalsLaws.{handed_on, number_above}
use Rattle.transform.specs.Answer.{transform_code}
use Rattle.transform.specs.AnswerLaws.{accepted, answered-accepted, answered-refused}
use Rattle.transform.proofs.checked.Goals as goal

pub returns-in_err-check : goal.returns-in_err-check
returns-in_err-check g c =
    let broken : number_of c.in_err-check.field-0.0 ≡ transform_code c.args.field c.args.words.now = c.in_err-check.ensures in
    let above = number_above c.in_err-check.field-0.0 in (
      handed_on _ _ c.from_residual.ensures broken,
      sym (answered-refused _ _ g.T.RowTransform.operation (λ z. omega (arith, broken, above))),
    )

pub replace-requires : goal.replace-requires
replace-requires g c = accepted _ _ (sym c.in_ok-check.ensures)

pub returns : goal.returns
returns g c =
    (c.in_ok-check.ensures, c.replace.ensures ∙ sym (answered-accepted _ _ g.T.RowTransform.operation (sym c.in_ok-check.ensures)))
