-- The last of the figures' rules: the five before it are kept, and what it refuses is handed on. The check finds the others alone.
use Rattle.std.specs.Prelude.{refl}
use Rattle.base.specs.declared.rules.Refusal.TheVariants.{Filter}
use Rattle.base.specs.RefusalsLaws.{handed_on, passes, required-steps}
use Rattle.join.proofs.checks.check_filter.Goals as goal

pub returns-in_err-require-6 : goal.returns-in_err-require-6
returns-in_err-require-6 c =
    handed_on _ _ c.from_residual-in_err-require-6.ensures
    (passes Filter 26 _ _ c.require.ensures c.branch-require.ensures c.in_ok-require.is refl
    (passes Filter 26 _ _ c.require-2.ensures c.branch-require-2.ensures c.in_ok-require-2.is refl
    (passes Filter 26 _ _ c.require-3.ensures c.branch-require-3.ensures c.in_ok-require-3.is refl
    (search required-steps depth 20 fits 4000))))
