-- `plan_by` is `plan_of`: where the layer is refused the figures are 0, else they are those of the layer.
use mathlib.Core.Path.{◌≡◌, refl, sym, ap, ◌∙◌}
use Prim.Native.Nat.{ℕ, zero, suc, ◌<◌}
use native.Mathlib.Omega.{arith}
use Rattle.base.specs.RefusalsLaws.{number_above}
use Rattle.layer.specs.Planned.{Planned}
use Rattle.layer.specs.declared.shape.Layer.{Layer}
use Rattle.layer.specs.declared.shape.Plan.{Plan}
use Rattle.checks.specs.declared.method.Method.{Method}
use Rattle.checks.specs.Engine.{engine_of}
use Rattle.checks.specs.Checks.{figures, plan_of}
use Rattle.checks.specs.ChecksLaws.{planned}
use Rattle.checks.specs.EngineLaws.{lawful}
use Rattle.checks.proofs.planner.plan_by.Goals as goal
use Rattle.checks.proofs.planner.plan_by.Goals.{In-Ok}

-- the figures of a number that is answered are 0
refused : (method : Method) (l : Layer) (code : ℕ) → 0 < code
    → record { code = code; height = 0; width = 0; parts = 0; scratch = 0 } ≡ figures (engine_of method) code l
refused method l zero above = absurd (omega arith)
refused method l (suc code) above = refl

made : {height width parts scratch height' width' parts' scratch' : ℕ}
    → height ≡ height' → width ≡ width' → parts ≡ parts' → scratch ≡ scratch'
    → ◌≡◌ {A = Plan} (record { code = 0; height = height; width = width; parts = parts; scratch = scratch })
    (record { code = 0; height = height'; width = width'; parts = parts'; scratch = scratch' })
made h w t s = cc

shown : (c : In-Ok) → Planned c.args.layer
shown c = planned (lawful c.args.method) _ (sym c.in-Ok.ensures)

pub full_size-requires : goal.full_size-requires
full_size-requires c = (shown c).height_output

pub full_size-requires-in-Ok : goal.full_size-requires-in-Ok
full_size-requires-in-Ok c = (shown (goal.at.full_size-requires-in-Ok c).In-Ok).width_output

pub part_total-requires : goal.part_total-requires
part_total-requires c = shown (goal.at.part_total-requires c).In-Ok

pub scratch_words-requires : goal.scratch_words-requires
scratch_words-requires c = (shown (goal.at.scratch_words-requires c).In-Ok).shape

pub returns-in-Ok : goal.returns-in-Ok
unfolding plan_of
returns-in-Ok c =
    let a = c.args in
    made c.full_size.ensures c.full_size-in-Ok.ensures c.part_total.ensures c.scratch_words.ensures
    ∙ ap (λ (code : ℕ). figures (engine_of a.method) code a.layer) c.in-Ok.ensures

pub returns-in-Err : goal.returns-in-Err
unfolding plan_of
returns-in-Err c =
    let a = c.args in
    refused a.method a.layer _ (omega (arith, number_above c.in-Err.refusal, c.number.ensures))
    ∙ ap (λ (code : ℕ). figures (engine_of a.method) code a.layer) (c.number.ensures ∙ c.in-Err.ensures)
