-- The rules 21 to 22 of a sequence: each has a number, none that stands with a place, and the answer of the first layers, where it is not 0, is that of
-- all. It rests on the laws of two lists of rules.
use Rattle.std.specs.Prelude.{◌≡◌, Bool, not, List, [], ◌∷◌, ◌++◌, ℕ, zero, suc, ◌+◌, ◌≤◌, T, eqb, ltb, ℤ}
use Rattle.std.proofs.Math.Decide.{ℕ_discrete}
use Rattle.std.proofs.Common.{arith}
use Rattle.std.proofs.Math.Facts.{yes_and}
use Rattle.base.specs.Rules.{Rule, first_broken}
use Rattle.base.specs.RulesLaws.{every_number, numbers_both, numbered, numbered_every, first_answers}
use Rattle.checks.specs.Checks.{is_placed}
use Rattle.checks.specs.OffenderLaws.{placeless, placeless_every}
use Rattle.steps.specs.declared.step.Step.{Step}
use Rattle.steps.specs.Steps.{weights_before}
use Rattle.steps.specs.Answer.{layer_rules, layers_rules, link_rule, steps_rules}

module _ (count : ℕ) (steps : ℕ → Step) (kernels : List ℤ) where
  -- those of layer k
  abbrev pub rules_at : (k : ℕ) → List Rule
  rules_at k = layer_rules (steps k) (eqb (k + 1) count) (weights_before steps k) kernels

  -- a test that the numbers of each layer's rules pass, and 21 and 22, those of all rules pass
  module _ (test : ℕ → Bool) (each : (k : ℕ) → T (every_number test (rules_at k))) where
    layers_pass : (n : ℕ) → T (every_number test (layers_rules count steps kernels n))
    layers_pass zero = tt
    layers_pass (suc n) = numbers_both test (layers_rules count steps kernels n) (rules_at n) (layers_pass n) (each n)

    pub steps_pass : T (test 21) → T (every_number test (link_rule count steps ∷ [])) → T (every_number test (steps_rules count steps kernels))
    steps_pass first last =
        yes_and (test 21) (every_number test (layers_rules count steps kernels count ++ (link_rule count steps ∷ []))) first
        (numbers_both test (layers_rules count steps kernels count) (link_rule count steps ∷ []) (layers_pass count) last)

  pub layers_numbered : (n : ℕ) → T (numbered (layers_rules count steps kernels n))
  layers_numbered n = numbered_every (layers_rules count steps kernels n) (layers_pass (ltb 0) (λ k. tt) n)

  pub steps_numbered : T (numbered (steps_rules count steps kernels))
  steps_numbered = numbered_every (steps_rules count steps kernels) (steps_pass (ltb 0) (λ k. tt) tt tt)

  -- no number of theirs stands with a place
  pub steps_placeless : T (placeless (steps_rules count steps kernels))
  steps_placeless = placeless_every (steps_rules count steps kernels) (steps_pass (λ n. not (is_placed n)) (λ k. tt) tt tt)

  -- the first layers' answer, where it is not 0, is that of all
  pub layers_stop : {code : ℕ} (k n : ℕ) → k ≤ n → code ≡ first_broken (layers_rules count steps kernels k) → (code ≡ 0 → ⊥)
      → code ≡ first_broken (layers_rules count steps kernels n)
  layers_stop {code} k zero l e broken = let none : k ≡ 0 = omega arith in rw none at e
  layers_stop {code} k (suc n) l e broken = go (ℕ_discrete k (suc n)) (λ below. layers_stop k n below e broken)
    where
      go : Dec (k ≡ suc n) → (k ≤ n → code ≡ first_broken (layers_rules count steps kernels n))
          → code ≡ first_broken (layers_rules count steps kernels (suc n))
      go (yes same) before = rw same at e
      go (no other) before = first_answers (layers_rules count steps kernels n) (rules_at n) (before (omega arith)) broken
