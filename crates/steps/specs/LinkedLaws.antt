-- What the answer 0 to the rules 21 to 22 says: each layer keeps its rules, and is followed by one that takes its levels. Each layer then has its
-- kernel whole. It rests on the laws of lists of rules.
use Rattle.std.specs.Prelude.{◌≡◌, Bool, true, false, ◌&&◌, List, [], ◌∷◌, ◌++◌, ℕ, zero, suc, ◌+◌, ◌-◌, ◌≤◌, ◌<◌, eqb, ℤ, length}
use Rattle.std.proofs.Math.Decide.{ℕ_discrete}
use Rattle.std.proofs.Common.{arith, eqb-true, leb-true, length-take, length-drop}
use Rattle.algebra.specs.EveryLaws.{both_true, every_at}
use Rattle.base.specs.Rules.{first_broken}
use Rattle.base.specs.RulesLaws.{none_broken, both_accept, inside_low, inside_high}
use Rattle.layer.specs.Shape.{kernel_count}
use Rattle.layer.specs.Planned.{Planned}
use Rattle.load.specs.Weights.{Weighted}
use Rattle.load.proofs.LoadLaws.{weighted}
use Rattle.checks.specs.Checks.{plan_code}
use Rattle.checks.specs.ChecksLaws.{planned}
use Rattle.checks.specs.EngineLaws.{tile_lawful}
use Rattle.steps.specs.declared.step.Step.{Step}
use Rattle.steps.specs.Steps.{weights_before, kernel_from}
use Rattle.steps.specs.Answer.{count_rule, enough, plan_rules, part_rules, kernel_rules, layer_rules, layers_rules, follows, link_rule, steps_code}
use Rattle.steps.specs.AnswerLaws.{rules_at, layers_numbered}
use Rattle.steps.specs.Linked.{Usable, Follows, AllPlanned, Linked}

-- ---- the rules of one layer

pub enough_weights : (last : Bool) (needed weights : ℕ) → enough last needed weights ≡ true → needed ≤ weights
enough_weights true needed weights e = omega (arith, eqb-true weights needed e)
enough_weights false needed weights e = leb-true needed weights e

pub usable : (s : Step) (last : Bool) (before : ℕ) (kernels : List ℤ) → first_broken (layer_rules s last before kernels) ≡ 0 → Usable s before kernels
unfolding plan_code
usable s last before kernels e =
    let more = part_rules s last before (length kernels) ++ kernel_rules s (kernel_from s before kernels) in
    let (plan, rest) = both_accept (plan_rules s) more tt e in
    let (weights, (peak, (blank, (loads, (shift, (bound, _)))))) = none_broken more tt rest in
    record {
      plan = plan;
      weights = enough_weights last (before + kernel_count s.layer) (length kernels) weights;
      peak_low = inside_low 1 32767 s.layer.peak peak;
      peak_high = inside_high 1 32767 s.layer.peak peak;
      none_blank_lem = blank;
      loads = loads;
      shift_high = inside_high 0 31 s.shift shift;
      bound_low = inside_low 1 32767 s.bound bound;
      bound_high = inside_high 1 32767 s.bound bound;
    }

-- ---- layer by layer

module _ (count : ℕ) (steps : ℕ → Step) (kernels : List ℤ) where
  pub layers_usable : (n : ℕ) → first_broken (layers_rules count steps kernels n) ≡ 0 → (k : ℕ) → k < n → Usable (steps k) (weights_before steps k) kernels
  layers_usable zero e k l = absurd (omega arith)
  layers_usable (suc n) e k l = go (ℕ_discrete k n) (layers_usable n both.0 k)
    where
      both : (first_broken (layers_rules count steps kernels n) ≡ 0) × (first_broken (rules_at count steps kernels n) ≡ 0)
      both = both_accept (layers_rules count steps kernels n) (rules_at count steps kernels n) (layers_numbered count steps kernels n) e

      go : Dec (k ≡ n) → (k < n → Usable (steps k) (weights_before steps k) kernels) → Usable (steps k) (weights_before steps k) kernels
      go (yes same) before = rw same (usable (steps n) (eqb (n + 1) count) (weights_before steps n) kernels both.1)
      go (no other) before = before (omega arith)

-- 22, of one layer and the next
follows_true : (one next : Step) → follows one next ≡ true → Follows one next
unfolding follows
follows_true one next e =
    let a = eqb one.layer.outputs next.layer.inputs in
    let b = eqb one.layer.rows next.layer.height in
    let c = eqb one.layer.columns next.layer.width in
    let d = eqb one.bound next.layer.peak in
    let (three, peak) = both_true (a && b && c) d e in
    let (two, columns) = both_true (a && b) c three in
    let (channels, rows) = both_true a b two in
    record {
      channels = eqb-true _ _ channels;
      rows = eqb-true _ _ rows;
      columns = eqb-true _ _ columns;
      peak = eqb-true _ _ peak;
    }

pub linked : (count : ℕ) (steps : ℕ → Step) (kernels : List ℤ) → steps_code count steps kernels ≡ 0 → Linked count steps kernels
unfolding steps_code
linked count steps kernels e =
    let all = layers_rules count steps kernels count in
    let first = count_rule count ∷ [] in
    let link = link_rule count steps ∷ [] in
    let (bounds, rest) = both_accept first (all ++ link) tt e in
    let (each, ends) = both_accept all link (layers_numbered count steps kernels count) rest in
    let (range, _) = none_broken first tt bounds in
    let (links, _) = none_broken link tt ends in
    record {
      count_low = inside_low 1 8 count range;
      count_high = inside_high 1 8 count range;
      layers = layers_usable count steps kernels count each;
      links = λ k l. follows_true (steps k) (steps (k + 1)) (every_at (count - 1) (λ i. follows (steps i) (steps (i + 1))) links k (omega arith));
    }

-- ---- what a layer of a sequence has

module _ {s : Step} {before : ℕ} {kernels : List ℤ} (u : Usable s before kernels) where
  pub layer_planned : Planned s.layer
  layer_planned = planned tile_lawful s.layer u.plan

  pub kernel_length : length (kernel_from s before kernels) ≡ kernel_count s.layer
  kernel_length = simp (length-take, length-drop) (omega (arith, u.weights))

  pub layer_weighted : Weighted s.layer (kernel_from s before kernels)
  layer_weighted = weighted s.layer (kernel_from s before kernels) layer_planned.shape u.peak_high kernel_length

pub all_planned : {count : ℕ} {steps : ℕ → Step} {kernels : List ℤ} → Linked count steps kernels → AllPlanned count steps
all_planned l = record { count_low = l.count_low; count_high = l.count_high; layers = λ k h. layer_planned (l.layers k h) }
