-- Turn after turn the levels of the step before k become the map of step k; the last step's levels are the final map.
use Rattle.std.proofs.Common.{◌≡◌, refl, sym, ◌∙◌, ℕ, ◌+◌, ◌-◌, ◌<◌, length, take, take_all, arith}
use Rattle.layer.specs.Shape.{map_count, output_count}
use Rattle.steps.specs.declared.step.Step.{Step}
use Rattle.steps.specs.Steps.{step_at}
use Rattle.sequence.specs.Sequence.{map_after}
use Rattle.sequence.specs.SequenceLaws.{map_none}
use Rattle.sequence.specs.ReadyLaws.{outputs_in, scratch_in, run_ready, levels_ready, map-follows, levels_next}
use Rattle.sequence.proofs.grow.grow.Goals as goal
use Rattle.sequence.proofs.grow.grow.Goals.{After-layer_levels, After-loop-k, At-loop-k, Start}

-- ---- the call

module _ (s : Start) where
  abbrev steps : ℕ → Step
  steps = step_at s.args.steps.now

  first_is : take (map_count (steps 0).layer) s.args.map.now ≡ map_after steps s.args.map.now s.args.kernels.now 0
  first_is =
      take_all (map_count (steps 0).layer) s.args.map.now (omega (arith, s.requires.linked.1.map-length))
      ∙ sym (map_none steps s.args.map.now s.args.kernels.now)

module _ (at : At-loop-k) where
  -- the buffers have the lengths that they were lent with
  output_long : length at.loop-k.output ≡ length at.args.output.now
  output_long = at.loop-k.invariant.output_long ∙ at.layer_sums.auto.output

  scratch_long : length at.loop-k.scratch ≡ length at.args.scratch.now
  scratch_long = at.loop-k.invariant.scratch_long ∙ at.layer_sums.auto.scratch

-- the levels of the step before k were written to the work map
map-held : (c : After-layer_levels) → let steps = step_at c.args.steps.now in
    take (map_count (steps c.loop-k.k).layer) c.layer_levels.new.map ≡ map_after steps c.args.map.now c.args.kernels.now c.loop-k.k
map-held c =
    let steps = step_at c.args.steps.now in
    let before : ℕ = c.loop-k.k - 1 in
    let next : before + 1 ≡ c.loop-k.k = omega arith in
    let held : take (map_count (steps (before + 1)).layer) c.layer_levels.new.map ≡ map_after steps c.args.map.now c.args.kernels.now (before + 1)
    = rw (map-follows c.requires.linked.0 before (omega arith)) (levels_next c.loop-k.invariant.ran c.layer_levels.ensures) in
    rw next at held

pub layer_sums-requires : goal.layer_sums-requires
layer_sums-requires c =
    let linked = c.requires.linked.0 in
    run_ready linked c.args.map.now c.requires.linked.1 0 linked.count_low (first_is (goal.at.layer_sums-requires c).Start)
    (outputs_in c.requires.roomy 0 linked.count_low).1 (scratch_in c.requires.roomy 0 linked.count_low)

pub loop-k-init : goal.loop-k-init
loop-k-init c = record {
  ran = record { sums = rw (first_is (goal.at.loop-k-init c).Start) at c.layer_sums.ensures };
  work_long = refl;
  output_long = refl;
  scratch_long = refl;
}

pub layer_levels-requires : goal.layer_levels-requires
layer_levels-requires c =
    let linked = c.requires.linked.0 in
    let before : c.loop-k.k - 1 < c.args.count = omega arith in
    let room = outputs_in c.requires.roomy (c.loop-k.k - 1) before in (
      omega (arith, linked.count_high),
      levels_ready linked (c.loop-k.k - 1) before
          (omega (arith, room.1, output_long (goal.at.layer_levels-requires c).At-loop-k)) (omega (arith, room.0, c.loop-k.invariant.work_long)),
    )

pub layer_sums-requires-in-loop-k : goal.layer_sums-requires-in-loop-k
layer_sums-requires-in-loop-k c =
    let at = (goal.at.layer_sums-requires-in-loop-k c).At-loop-k in
    let linked = c.requires.linked.0 in
    let k = c.loop-k.k in
    let below : k < c.args.count = omega arith in
    run_ready linked c.args.map.now c.requires.linked.1 k below (map-held (goal.at.layer_sums-requires-in-loop-k c).After-layer_levels)
    (omega (arith, (outputs_in c.requires.roomy k below).1, output_long at)) (omega (arith, scratch_in c.requires.roomy k below, scratch_long at))

pub loop-k-preserved : goal.loop-k-preserved
loop-k-preserved c =
    let same : c.loop-k.k + 1 - 1 ≡ c.loop-k.k = omega arith in
    record {
      ran = rw same (record { sums = rw (map-held (goal.at.loop-k-preserved c).After-layer_levels) at c.layer_sums-in-loop-k.ensures });
      work_long = c.layer_levels.auto.map ∙ c.loop-k.invariant.work_long;
      output_long = c.layer_sums-in-loop-k.auto.output ∙ c.loop-k.invariant.output_long;
      scratch_long = c.layer_sums-in-loop-k.auto.scratch ∙ c.loop-k.invariant.scratch_long;
    }

-- ---- the last step

pub layer_levels-requires-2 : goal.layer_levels-requires-2
layer_levels-requires-2 c =
    let linked = c.requires.linked.0 in
    let last : c.args.count - 1 < c.args.count = omega (arith, linked.count_low) in
    let room = outputs_in c.requires.roomy (c.args.count - 1) last in (
      omega (arith, linked.count_high),
      levels_ready linked (c.args.count - 1) last
          (omega (arith, room.1, output_long (goal.at.layer_levels-requires-2 c).At-loop-k)) (omega (arith, c.requires.roomy.final_length)),
    )

pub shape_of-work : goal.shape_of-work
shape_of-work c = c.loop-k.invariant.work_long

pub shape_of-output : goal.shape_of-output
shape_of-output c = output_long (goal.at.shape_of-output c).At-loop-k

pub shape_of-scratch : goal.shape_of-scratch
shape_of-scratch c = scratch_long (goal.at.shape_of-scratch c).At-loop-k

pub shape_of-last : goal.shape_of-last
shape_of-last c = c.layer_levels-2.auto.map

pub returns : goal.returns
returns c =
    let count = c.args.count in
    let end : c.loop-k.k ≡ count = omega (arith, c.requires.linked.0.count_low) in
    let next : count - 1 + 1 ≡ count = omega (arith, c.requires.linked.0.count_low) in
    let whole = take_all (output_count (step_at c.args.steps.now (count - 1)).layer) c.layer_levels-2.new.map
    (omega (arith, c.layer_levels-2.auto.map, c.requires.roomy.final_length)) in
    let ran = rw end at c.loop-k.invariant.ran in
    sym whole ∙ (rw next at (levels_next ran c.layer_levels-2.ensures))
