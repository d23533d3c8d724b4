-- 02, E3, E7 and E10: the rules 21 to 22 of a sequence, which speak of its steps and its kernels: 21; layer by layer 1 to 9 with 23 after 7, then 11,
-- 14, 24, 16 and 20; then 22.
use Rattle.std.specs.Prelude.{Bool, ◌&&◌, cond, List, [], ◌∷◌, ◌++◌, ℕ, zero, suc, ◌+◌, ◌-◌, eqb, leb, ℤ, length}
use Rattle.algebra.specs.Every.{every}
use Rattle.base.specs.Rules.{Rule, rule, first_broken, inside}
use Rattle.layer.specs.Shape.{kernel_count}
use Rattle.checks.specs.Rules.{peak_rule}
use Rattle.checks.specs.Checks.{shape_rules, output_rules, weight_rules}
use Rattle.levels.specs.Answer.{shift_rule, bound_rule}
use Rattle.steps.specs.declared.step.Step.{Step}
use Rattle.steps.specs.Steps.{weights_before, kernel_from}

-- 21: a sequence has one to eight layers
abbrev pub count_rule : (count : ℕ) → Rule
count_rule count = rule 21 (inside 1 8 count)

-- ---- one layer. `before` weights belong to the layers before it, and `last` says whether it is the last

-- no fewer weights than all layers up to this one need, and at the last layer no more
abbrev pub enough : (last : Bool) → (needed weights : ℕ) → Bool
enough last needed weights = cond last (eqb weights needed) (leb needed weights)

-- 11: so many weights are lent
abbrev pub weights_rule : Step → (last : Bool) → (before weights : ℕ) → Rule
weights_rule s last before weights = rule 11 (enough last (before + kernel_count s.layer) weights)

-- 1 to 9 with 23, of a layer in either field
abbrev pub plan_rules : Step → List Rule
plan_rules s = shape_rules 5 s.layer ++ output_rules s.layer

-- 11 and 14
abbrev pub part_rules : Step → (last : Bool) → (before weights : ℕ) → List Rule
part_rules s last before weights = weights_rule s last before weights ∷ peak_rule s.layer ∷ []

-- 24, 16 and 20
abbrev pub kernel_rules : Step → (kernel : List ℤ) → List Rule
kernel_rules s kernel = weight_rules s.layer kernel ++ (shift_rule s.shift ∷ bound_rule s.bound ∷ [])

abbrev pub layer_rules : Step → (last : Bool) → (before : ℕ) → (kernels : List ℤ) → List Rule
layer_rules s last before kernels = plan_rules s ++ part_rules s last before (length kernels) ++ kernel_rules s (kernel_from s before kernels)

-- ---- all layers

-- of the first n of `count` layers, all rules of one before those of the next
abbrev pub layers_rules : (count : ℕ) → (ℕ → Step) → (kernels : List ℤ) → (n : ℕ) → List Rule
layers_rules count steps kernels zero = []
layers_rules count steps kernels (suc k) =
    layers_rules count steps kernels k ++ layer_rules (steps k) (eqb (k + 1) count) (weights_before steps k) kernels

-- the layer's M, h, w and B are the next one's C, H, W and A
unfoldable pub follows : (one next : Step) → Bool
follows one next =
    eqb one.layer.outputs next.layer.inputs
    && eqb one.layer.rows next.layer.height
    && eqb one.layer.columns next.layer.width
    && eqb one.bound next.layer.peak

-- 22: those of each layer but the last are
abbrev pub link_rule : (count : ℕ) → (ℕ → Step) → Rule
link_rule count steps = rule 22 (every (count - 1) (λ k. follows (steps k) (steps (k + 1))))

-- 21 to 22
abbrev pub steps_rules : (count : ℕ) → (ℕ → Step) → (kernels : List ℤ) → List Rule
steps_rules count steps kernels = count_rule count ∷ (layers_rules count steps kernels count ++ (link_rule count steps ∷ []))

unfoldable pub steps_code : (count : ℕ) → (ℕ → Step) → (kernels : List ℤ) → ℕ
steps_code count steps kernels = first_broken (steps_rules count steps kernels)
