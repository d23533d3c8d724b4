-- What 02, E2 changed of the load: it is at most the former one, and equal to it in CONV and at stride 1; a call that is accepted with the
-- former one is accepted. It rests on the laws of groups, of `every` and of lists of rules.
use Rattle.std.specs.Prelude.{◌≡◌, refl, Bool, true, false, ℕ, suc, ◌*◌, ◌≤◌, T, ℤ}
use Rattle.std.proofs.Math.Path.{ap}
use Rattle.std.proofs.Common.{◌∙◌, le_trans, arith}
use mathlib.Core.List.{List, [], ◌∷◌, ◌++◌}
use Rattle.std.proofs.Math.Decide.{ℕ_discrete}
use borrow.Author.Tests.{le-leb, leb-true}
use Rattle.std.proofs.Math.Dec.{leb}
use Rattle.algebra.specs.EveryLaws.{every_at, every_from}
use Rattle.base.specs.Rules.{Rule, rule, first_broken}
use Rattle.base.specs.RulesLaws.{numbered, both_accept, second_answers}
use Rattle.layer.specs.declared.shape.Layer.{Layer}
use Rattle.load.specs.Load.{size_total, load, load_limit, loads_fit}
use Rattle.load.proofs.GroupLaws.{one_stride_group}
use Rattle.load.proofs.LoadLaws.{load-conv, load-tconv, load_most}
use Rattle.checks.specs.Engine.{Engine}
use Rattle.checks.specs.Rules.{above_rule, below_rule, blank_rule}
use Rattle.checks.specs.Checks.{shape_rules, output_rules, lent_rules, job_rules, run_code, job_code}
use Rattle.checks.specs.FormerLoad.{former_load, former_loads_fit, former_run_code, former_job_code}

module _ (l : Layer) (kernel : List ℤ) where
  pub load_at_most_former : (m : ℕ) → load l kernel m ≤ former_load l kernel m
  unfolding former_load
  load_at_most_former m = load_most l kernel m

  pub conv-load : l.kind ≡ 0 → (m : ℕ) → load l kernel m ≡ former_load l kernel m
  unfolding former_load
  conv-load e m = load-conv l kernel m e

  pub one_stride_load : l.stride ≡ 1 → (m : ℕ) → load l kernel m ≡ former_load l kernel m
  unfolding former_load
  one_stride_load e m = go (ℕ_discrete l.kind 0)
    where
      go : Dec (l.kind ≡ 0) → load l kernel m ≡ l.peak * size_total l kernel m
      go (yes conv) = load-conv l kernel m conv
      go (no tconv) = load-tconv l kernel m tconv ∙ ap (λ (n : ℕ). l.peak * n) (one_stride_group l kernel m e)

  -- loads that fitted fit
  pub still_fit : former_loads_fit l kernel ≡ true → loads_fit l kernel ≡ true
  unfolding loads_fit former_loads_fit
  still_fit e = every_from l.outputs _ (λ m h.
      le-leb _ _ (le_trans (load_at_most_former m) (leb-true _ _ (every_at l.outputs (λ m. leb (former_load l kernel m) (load_limit l.field)) e m h))))

-- one rule in the place of another that entails it
other_rule : (rules more : List Rule) (number : ℕ) (former new : Bool) → T (numbered rules) → (former ≡ true → new ≡ true)
    → first_broken (rules ++ rule (suc number) former ∷ more) ≡ 0 → first_broken (rules ++ rule (suc number) new ∷ more) ≡ 0
other_rule rules more number former new n entails e =
    let (before, rest) = both_accept rules (rule (suc number) former ∷ more) n e in
    second_answers rules (rule (suc number) new ∷ more) n before ∙ go former new entails rest
  where
    go : (former new : Bool) → (former ≡ true → new ≡ true) → first_broken (rule (suc number) former ∷ more) ≡ 0
        → first_broken (rule (suc number) new ∷ more) ≡ 0
    go true new entails e = rw (entails refl) e
    go false new entails e = absurd (omega arith)

-- a call that is accepted with the former load is accepted, of any engine
module _ (engine : Engine) (l : Layer) (map kernel : List ℤ) (output scratch : ℕ) where
  abbrev earlier : List Rule
  earlier =
      shape_rules engine.last_field l ++ output_rules l ++ lent_rules (engine.words l) l map kernel output scratch
      ++ above_rule l map ∷ below_rule l map ∷ blank_rule l kernel ∷ []

  pub run_accepted : former_run_code engine l map kernel output scratch ≡ 0 → run_code engine l map kernel output scratch ≡ 0
  unfolding former_run_code run_code
  run_accepted = other_rule earlier [] 15 (former_loads_fit l kernel) (loads_fit l kernel) tt (still_fit l kernel)

  pub job_accepted : (next : ℕ) → former_job_code engine l next map kernel output scratch ≡ 0 → job_code engine l next map kernel output scratch ≡ 0
  unfolding former_job_code job_code
  job_accepted next = other_rule earlier (job_rules (engine.total l) next) 15 (former_loads_fit l kernel) (loads_fit l kernel) tt (still_fit l kernel)
