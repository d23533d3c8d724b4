-- The part of the output buffer that is lent to the run holds the direct sums when it is back.
use mathlib.Core.Path.{sym, ap}
use Prim.Native.Nat.{◌≤◌}
use native.Mathlib.Omega.{arith}
use lib.ListN.{length, length-take}
use lib.Seq.{length-take-le}
use Rattle.layer.specs.Planned.{Planned}
use Rattle.layer.specs.Shape.{map_count, output_count}
use Rattle.steps.specs.declared.step.Step.{Step}
use Rattle.steps.specs.LinkedLaws.{layer_planned}
use Rattle.sequence.proofs.Fronts.{sums_left}
use Rattle.sequence.proofs.grow.layer_sums.Goals as goal
use Rattle.sequence.proofs.grow.layer_sums.Goals.{After-map_count-values, After-output_count-outputs, After-step_at}

planned_layer : (c : After-step_at) → Planned c.step_at.result.layer
planned_layer c =
    rw c.step_at.ensures (layer_planned (c.requires.usable c.args.k (omega arith)))

-- the map has all values that the layer takes, and the output buffer has room for all its outputs
values_in_lem : (c : After-map_count-values) → c.map_count-values.result ≤ length c.args.map.now
values_in_lem c =
    let own = ap (λ (t : Step). map_count t.layer) c.step_at.ensures in
    omega (arith, c.map_count-values.ensures, own, simp length-take at c.requires.taken.map-length)

outputs_in : (c : After-output_count-outputs) → c.output_count-outputs.result ≤ length c.args.output.now
outputs_in c =
    let own = ap (λ (t : Step). output_count t.layer) c.step_at.ensures in
    omega (arith, c.output_count-outputs.ensures, own, c.requires.output_room)

pub map_count-values-requires : goal.map_count-values-requires
map_count-values-requires c = (planned_layer (goal.at.map_count-values-requires c).After-step_at).shape

pub output_count-outputs-requires : goal.output_count-outputs-requires
output_count-outputs-requires c = planned_layer (goal.at.output_count-outputs-requires c).After-step_at

pub slice_bounds-run_by-end : goal.slice_bounds-run_by-end
slice_bounds-run_by-end c = sym (length-take-le _ _ (values_in_lem (goal.at.slice_bounds-run_by-end c).After-map_count-values))

pub slice_bounds-run_by-end-2 : goal.slice_bounds-run_by-end-2
slice_bounds-run_by-end-2 c = outputs_in (goal.at.slice_bounds-run_by-end-2 c).After-output_count-outputs

pub slice_bounds-run_by-end-3 : goal.slice_bounds-run_by-end-3
slice_bounds-run_by-end-3 c = sym (length-take-le _ _ (outputs_in (goal.at.slice_bounds-run_by-end-3 c).After-output_count-outputs))

pub returns : goal.returns
returns c =
    sums_left c.args.output.now c.step_at.ensures c.map_count-values.ensures c.output_count-outputs.ensures c.kernel_of-kernel.ensures
    c.requires c.run_by.ensures
