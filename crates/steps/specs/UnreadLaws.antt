-- What a sequence answers depends on its first `count` steps alone: what stands in rows from the count on changes nothing. It rests on the laws of equal
-- summands and of equal tests.
use Rattle.std.specs.Prelude.{◌≡◌, Bool, List, ◌++◌, eqb, ℤ}
use Rattle.std.proofs.Math.Path.{refl, ap, ap₂}
use Rattle.std.proofs.Math.Bool.{true, false}
use Prim.Native.Nat.{ℕ, zero, suc, ◌+◌, ◌-◌, ◌≤◌, ◌<◌}
use Rattle.std.proofs.Common.{arith}
use Rattle.algebra.specs.EveryLaws.{every_cong}
use Rattle.algebra.specs.GreatestLaws.{maxima}
use Rattle.algebra.specs.SumLaws.{sum_cong}
use Rattle.base.specs.Rules.{rule, first_broken, inside}
use Rattle.base.specs.RulesLaws.{inside_low}
use Rattle.layer.specs.declared.shape.Layer.{Layer}
use Rattle.layer.specs.Shape.{output_count, scratch_words}
use Rattle.checks.specs.declared.calls.Checked.{Checked}
use Rattle.checks.specs.Checks.{offender_with}
use Rattle.steps.specs.declared.step.Step.{Step}
use Rattle.steps.specs.declared.answer.Room.{Room}
use Rattle.steps.specs.StepsLaws.{weights_same}
use Rattle.steps.specs.Answer.{layer_rules, layers_rules, follows, link_rule}
use Rattle.steps.specs.Lent.{sequence_rules, sequence_code, sequence_answer}

module _ (count : ℕ) (steps other : ℕ → Step) (same : (k : ℕ) → k < count → steps k ≡ other k) where
  layers_same : (kernels : List ℤ) (n : ℕ) → n ≤ count → layers_rules count steps kernels n ≡ layers_rules count other kernels n
  layers_same kernels zero low = refl
  layers_same kernels (suc n) low =
      ap₂ ◌++◌ (layers_same kernels n (omega arith))
      (ap₂ (λ (s : Step) (before : ℕ). layer_rules s (eqb (n + 1) count) before kernels) (same n low)
      (weights_same steps other n (λ i l. same i (omega arith))))

  links_same : link_rule count steps ≡ link_rule count other
  links_same =
      ap (rule 22) (every_cong (count - 1) _ _ (λ k l. ap₂ follows (same k (omega arith)) (same (k + 1) (omega arith))))

  most_same : (f : Step → ℕ) → maxima.total count (λ k. f (steps k)) ≡ maxima.total count (λ k. f (other k))
  most_same f = sum_cong maxima count _ _ (λ k l. ap f (same k l))

  -- where there is a step, all rules are the same
  rules_same : 1 ≤ count → (map kernels : List ℤ) (room : Room) → sequence_rules count steps map kernels room ≡ sequence_rules count other map kernels room
  rules_same some map kernels room =
      rw (
        layers_same kernels count (omega arith),
        links_same,
        same 0 (omega arith),
        same (count - 1) (omega arith),
        most_same (λ s. output_count s.layer),
        most_same (λ s. scratch_words s.layer),
      )

  pub answer_same : (map kernels : List ℤ) (room : Room) → sequence_answer count steps map kernels room ≡ sequence_answer count other map kernels room
  unfolding offender_with sequence_code
  answer_same map kernels room = by_count (inside 1 8 count) refl
    where
      by_count : (t : Bool) → inside 1 8 count ≡ t → sequence_answer count steps map kernels room ≡ sequence_answer count other map kernels room
      by_count true e =
          let some = inside_low 1 8 count e in
          let code = ap first_broken (rules_same some map kernels room) in
          let answered : ℕ → Layer → Checked = λ n l. record { code = n; offender = offender_with n l map } in
          ap₂ answered code (ap (λ (s : Step). s.layer) (same 0 some))
      by_count false e = rw e
