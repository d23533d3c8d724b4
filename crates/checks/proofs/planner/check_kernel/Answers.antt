-- Rule by rule: a broken one is handed on, and the later ones decide where it is kept.
use Rattle.base.specs.RefusalsLaws.{handed_on, required-steps}
use Rattle.checks.proofs.planner.check_kernel.Goals as goal

pub returns-in_err-require : goal.returns-in_err-require
returns-in_err-require c = handed_on _ _ c.from_residual.ensures (search required-steps depth 20)

pub returns-in_err-require-2 : goal.returns-in_err-require-2
returns-in_err-require-2 c = handed_on _ _ c.from_residual-in_err-require-2.ensures (search required-steps depth 20)

pub returns-in_err-require-3 : goal.returns-in_err-require-3
returns-in_err-require-3 c = handed_on _ _ c.from_residual-in_err-require-3.ensures (search required-steps depth 20)

pub returns : goal.returns
returns c = search required-steps depth 20 fits 4000
