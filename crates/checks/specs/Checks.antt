-- 01, "Returned by number": what a plan, a run and a job answer, each by its list of rules in table order. Engines differ in three figures of
-- them: the last field that is taken, the words of scratch and the total of parts.
use Rattle.std.specs.Prelude.{Bool, cond, ◌||◌, List, [], ◌∷◌, ◌++◌, ℕ, zero, suc, eqb, ℤ, length}
use Rattle.base.specs.Rules.{Rule, first_broken}
use Rattle.layer.specs.declared.shape.Layer.{Layer}
use Rattle.layer.specs.declared.shape.Plan.{Plan}
use Rattle.layer.specs.Shape.{full_height, full_width}
use Rattle.load.specs.declared.offender.Offender.{Offender}
use Rattle.load.specs.Offender.{no_offender, offender_of}
use Rattle.checks.specs.Engine.{Engine}
use Rattle.checks.specs.Rules.{kind_rule, field_rule, channels_rule, map_rule, side_rule, stride_rule, padding_rule, added_rule, output_rule, crop_rule, map_length_rule, kernel_length_rule, output_length_rule, scratch_rule, peak_rule, above_rule, below_rule, blank_rule, loads_rule, index_rule}

-- ---- lists of rules

-- 1 to 4: the kind, the field, the channels and the map
abbrev pub map_rules : (last : ℕ) → Layer → List Rule
map_rules last l = kind_rule l ∷ field_rule l last ∷ channels_rule l ∷ map_rule l ∷ []

-- 5 to 7 and 23: the kernel, its stride and its padding, and what is added
abbrev pub kernel_rules : Layer → List Rule
kernel_rules l = side_rule l ∷ stride_rule l ∷ padding_rule l ∷ added_rule l ∷ []

-- 1 to 7 and 23
abbrev pub shape_rules : (last : ℕ) → Layer → List Rule
shape_rules last l = map_rules last l ++ kernel_rules l

-- 8 and 9: the full output and the crop
abbrev pub output_rules : Layer → List Rule
output_rules l = output_rule l ∷ crop_rule l ∷ []

-- 10 to 14: the lengths of what is lent, and the peak
abbrev pub lent_rules : (words : ℕ) → Layer → (map kernel : List ℤ) → (output scratch : ℕ) → List Rule
lent_rules words l map kernel output scratch =
    map_length_rule l (length map) ∷ kernel_length_rule l kernel ∷ output_length_rule l output ∷ scratch_rule words scratch ∷ peak_rule l ∷ []

-- 15 and 25: the values of the map
abbrev pub map_value_rules : Layer → (map : List ℤ) → List Rule
map_value_rules l map = above_rule l map ∷ below_rule l map ∷ []

-- 24 and 16: the weights of each output channel
abbrev pub weight_rules : Layer → (kernel : List ℤ) → List Rule
weight_rules l kernel = blank_rule l kernel ∷ loads_rule l kernel ∷ []

-- 15, 25, 24 and 16: the values of the map and of the kernel
abbrev pub value_rules : Layer → (map kernel : List ℤ) → List Rule
value_rules l map kernel = map_value_rules l map ++ weight_rules l kernel

-- 10 to 16, with 25 and 24 before 16
abbrev pub call_rules : (words : ℕ) → Layer → (map kernel : List ℤ) → (output scratch : ℕ) → List Rule
call_rules words l map kernel output scratch = lent_rules words l map kernel output scratch ++ value_rules l map kernel

-- 17
abbrev pub job_rules : (total next : ℕ) → List Rule
job_rules total next = index_rule total next ∷ []

-- ---- the answers

-- 02, E11: the answers 15 and 25 come with the place and the side of the first map value beyond the peak, any other with zeros
abbrev pub is_placed : (code : ℕ) → Bool
is_placed code = eqb code 15 || eqb code 25

unfoldable pub offender_with : (code : ℕ) → Layer → (map : List ℤ) → Offender
offender_with code l map = cond (is_placed code) (offender_of l map) no_offender

module _ (engine : Engine) where
  -- the planner makes 1 to 9 with 23 after 7, a run goes on to 16 with 25 and 24 before it, a job to 17
  unfoldable pub plan_code : Layer → ℕ
  plan_code l = first_broken (shape_rules engine.last_field l ++ output_rules l)

  abbrev pub run_rules : Layer → (map kernel : List ℤ) → (output scratch : ℕ) → List Rule
  run_rules l map kernel output scratch =
      shape_rules engine.last_field l ++ output_rules l ++ call_rules (engine.words l) l map kernel output scratch

  unfoldable pub run_code : Layer → (map kernel : List ℤ) → (output scratch : ℕ) → ℕ
  run_code l map kernel output scratch = first_broken (run_rules l map kernel output scratch)

  unfoldable pub job_code : Layer → ℕ → (map kernel : List ℤ) → (output scratch : ℕ) → ℕ
  job_code l next map kernel output scratch =
      first_broken (shape_rules engine.last_field l ++ output_rules l
      ++ call_rules (engine.words l) l map kernel output scratch ++ job_rules (engine.total l) next)

  -- ---- the plan

  -- the figures of a refusal are 0
  abbrev pub figures : (code : ℕ) → Layer → Plan
  figures zero l = record {
    code = 0;
    height = full_height l;
    width = full_width l;
    parts = engine.total l;
    scratch = engine.words l;
  }
  figures (suc code) l = record { code = suc code; height = 0; width = 0; parts = 0; scratch = 0 }

  unfoldable pub plan_of : Layer → Plan
  plan_of l = figures (plan_code l) l
