-- Rule by rule, with the counts of the first, the last and the greatest layer.
use mathlib.Core.Path.{ap, ap₂, ◌∙◌}
use Prim.Native.Nat.{◌-◌}
use native.Mathlib.Omega.{arith}
use lib.Dec.{eqb}
use Rattle.base.specs.RefusalsLaws.{handed_on, required-steps}
use Rattle.layer.specs.Planned.{Planned}
use Rattle.layer.specs.Shape.{map_count, output_count}
use Rattle.steps.specs.declared.step.Step.{Step}
use Rattle.steps.specs.Lent.{buffers_fit}
use Rattle.steps.proofs.answer.check_room.Goals as goal
use Rattle.steps.proofs.answer.check_room.Goals.{After-step_at-begin, After-step_at-end}

first_planned : (c : After-step_at-begin) → Planned c.step_at-begin.result.layer
first_planned c = rw c.step_at-begin.ensures (c.requires.layers 0 c.requires.count_low)

last_planned : (c : After-step_at-end) → Planned c.step_at-end.result.layer
last_planned c = rw c.step_at-end.ensures (c.requires.layers (c.args.count - 1) (omega (arith, c.requires.count_low)))

pub overflow_sub-count : goal.overflow_sub-count
overflow_sub-count c = omega (arith, c.requires.count_low)

pub step_at-end-requires : goal.step_at-end-requires
step_at-end-requires c = omega (arith, c.requires.count_high)

pub most_of-most-requires : goal.most_of-most-requires
most_of-most-requires c = c.requires

pub output_count-requires : goal.output_count-requires
output_count-requires c = last_planned (goal.at.output_count-requires c).After-step_at-end

pub map_count-requires : goal.map_count-requires
map_count-requires c = (first_planned (goal.at.map_count-requires c).After-step_at-begin).shape

pub returns-in_err-require : goal.returns-in_err-require
returns-in_err-require c =
    let map_is = ap (eqb c.args.map) (c.map_count.ensures ∙ ap (λ (t : Step). map_count t.layer) c.step_at-begin.ensures) in
    handed_on _ _ c.from_residual.ensures (search required-steps depth 20)

pub returns-in_err-require-2 : goal.returns-in_err-require-2
returns-in_err-require-2 c =
    let map_is = ap (eqb c.args.map) (c.map_count.ensures ∙ ap (λ (t : Step). map_count t.layer) c.step_at-begin.ensures) in
    let final_is = c.output_count.ensures ∙ ap (λ (t : Step). output_count t.layer) c.step_at-end.ensures in
    let buffers = c.buffers_fit-fits.ensures ∙ ap₂ (buffers_fit c.args.room) final_is c.most_of-most.ensures.outputs_value in
    handed_on _ _ c.from_residual-in_err-require-2.ensures (search required-steps depth 20)

pub returns : goal.returns
returns c =
    let map_is = ap (eqb c.args.map) (c.map_count.ensures ∙ ap (λ (t : Step). map_count t.layer) c.step_at-begin.ensures) in
    let final_is = c.output_count.ensures ∙ ap (λ (t : Step). output_count t.layer) c.step_at-end.ensures in
    let buffers = c.buffers_fit-fits.ensures ∙ ap₂ (buffers_fit c.args.room) final_is c.most_of-most.ensures.outputs_value in
    search required-steps depth 20 fits 4000
