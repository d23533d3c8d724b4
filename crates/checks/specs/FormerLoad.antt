-- The load and the rule 16 as they were before 02, E2: by the sum of all sizes in both kinds. The other rules are those of now. They serve the laws
-- that say what E2 changed.
use Rattle.std.specs.Prelude.{Bool, List, [], ◌∷◌, ◌++◌, ℕ, ◌*◌, leb, ℤ}
use Rattle.algebra.specs.Every.{every}
use Rattle.base.specs.Rules.{rule, first_broken}
use Rattle.layer.specs.declared.shape.Layer.{Layer}
use Rattle.load.specs.Load.{size_total, load_limit}
use Rattle.checks.specs.Engine.{Engine}
use Rattle.checks.specs.Rules.{above_rule, below_rule, blank_rule}
use Rattle.checks.specs.Checks.{shape_rules, output_rules, lent_rules, job_rules}

-- A times the sum of the sizes of all weights that reach output channel m
unfoldable pub former_load : Layer → List ℤ → (m : ℕ) → ℕ
former_load l kernel m = l.peak * size_total l kernel m

unfoldable pub former_loads_fit : Layer → List ℤ → Bool
former_loads_fit l kernel = every l.outputs (λ m. leb (former_load l kernel m) (load_limit l.field))

-- what a run and a job of an engine would answer by that rule
module _ (engine : Engine) where
  unfoldable pub former_run_code : Layer → (map kernel : List ℤ) → (output scratch : ℕ) → ℕ
  former_run_code l map kernel output scratch =
      first_broken (shape_rules engine.last_field l ++ output_rules l ++ lent_rules (engine.words l) l map kernel output scratch
      ++ above_rule l map ∷ below_rule l map ∷ blank_rule l kernel ∷ rule 16 (former_loads_fit l kernel) ∷ [])

  unfoldable pub former_job_code : Layer → ℕ → (map kernel : List ℤ) → (output scratch : ℕ) → ℕ
  former_job_code l next map kernel output scratch =
      first_broken (shape_rules engine.last_field l ++ output_rules l ++ lent_rules (engine.words l) l map kernel output scratch
      ++ above_rule l map ∷ below_rule l map ∷ blank_rule l kernel ∷ rule 16 (former_loads_fit l kernel) ∷ job_rules (engine.total l) next)
