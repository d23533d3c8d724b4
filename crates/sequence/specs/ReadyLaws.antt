-- Where the checks of a sequence pass, every layer's run is accepted, and so are its levels: no check can fail between two layers. A map has the length
-- that the layer before kept, and its values lie within B, which is the layer's A.
use Rattle.std.specs.Prelude.{◌≡◌, List, ℕ, zero, suc, ◌+◌, ◌≤◌, ◌<◌, ℤ, length, take}
use Rattle.std.proofs.Math.Path.{refl}
use Rattle.std.proofs.Common.{sym, ◌∙◌, add-one, arith}
use Rattle.std.proofs.Math.Bool.{true, not}
use borrow.Author.Tests.{le-leb, eq-eqb}
use Rattle.std.proofs.Math.Dec.{eqb, leb}
use Rattle.algebra.specs.GreatestLaws.{greatest_at}
use Rattle.base.specs.Rules.{inside}
use Rattle.base.specs.RulesLaws.{all_hold, second_answers, inside_from}
use Rattle.layer.specs.Shape.{map_count, kernel_count, output_count, scratch_words}
use Rattle.load.specs.Offender.{offender_of}
use Rattle.load.specs.OffenderLaws.{offender_none}
use Rattle.checks.specs.Engine.{tile_engine}
use Rattle.checks.specs.Checks.{call_rules, plan_code, run_code}
use Rattle.levels.specs.Answer.{levels_rules, levels_code, levels_of}
use Rattle.steps.specs.declared.step.Step.{Step}
use Rattle.steps.specs.declared.answer.Room.{Room}
use Rattle.steps.specs.Steps.{kernel_from, kernel_at}
use Rattle.steps.specs.Answer.{plan_rules}
use Rattle.steps.specs.Linked.{Usable, Linked}
use Rattle.steps.specs.LinkedLaws.{layer_planned, kernel_length}
use Rattle.steps.specs.Runnable.{Taken, Roomy, Runnable}
use Rattle.sequence.specs.Sequence.{map_after}
use Rattle.sequence.specs.SequenceLaws.{map_none, map_next, grown_taken}
use Rattle.sequence.specs.Ready.{RunReady, LevelsReady, Ran}

-- ---- the maps

module _ {count : ℕ} {steps : ℕ → Step} {kernels : List ℤ} (l : Linked count steps kernels) where
  -- the map after k steps is one that layer k takes
  pub map_taken : (map : List ℤ) → Taken (steps 0).layer map → (k : ℕ) → k < count → Taken (steps k).layer (map_after steps map kernels k)
  map_taken map first zero h = rw (map_none steps map kernels) first
  map_taken map first (suc k) h =
      let next : Taken (steps (k + 1)).layer (map_after steps map kernels (k + 1))
      = rw (map_next steps map kernels k)
      (grown_taken (steps k) (steps (k + 1)) (map_after steps map kernels k) (kernel_at steps kernels k) (l.links k (omega arith))) in
      rw add-one at next

-- ---- a layer's run, and its levels

module _ {s : Step} {before : ℕ} {kernels : List ℤ} (u : Usable s before kernels) where
  pub run_accepted : (map : List ℤ) → Taken s.layer map → (scratch : ℕ) → scratch_words s.layer ≤ scratch
      → run_code tile_engine s.layer map (kernel_from s before kernels) (output_count s.layer) scratch ≡ 0
  unfolding plan_code run_code
  run_accepted map taken scratch room =
      let l = s.layer in
      let kernel = kernel_from s before kernels in
      let call = call_rules (scratch_words l) l map kernel (output_count l) scratch in
      let map-fits : eqb (length map) (map_count l) ≡ true = eq-eqb _ _ taken.map-length in
      let kernel_fits : eqb (length kernel) (kernel_count l) ≡ true = eq-eqb _ _ (kernel_length u) in
      let output_fits : eqb (output_count l) (output_count l) ≡ true = eq-eqb (output_count l) (output_count l) refl in
      let enough : leb (scratch_words l) scratch ≡ true = le-leb _ _ room in
      let peak : inside 1 32767 l.peak ≡ true = inside_from 1 32767 l.peak u.peak_low u.peak_high in
      let none = offender_none l map taken.values in
      let above : not (eqb (offender_of l map).side 1) ≡ true = rw none in
      let below : not (eqb (offender_of l map).side 2) ≡ true = rw none in
      second_answers (plan_rules s) call tt u.plan ∙ all_hold call search

  pub levels_accepted : (places : ℕ) → levels_code s.shift s.bound places places ≡ 0
  unfolding levels_code
  levels_accepted places =
      let shift : inside 0 31 s.shift ≡ true = inside_from 0 31 s.shift (omega arith) u.shift_high in
      let bound : inside 1 32767 s.bound ≡ true = inside_from 1 32767 s.bound u.bound_low u.bound_high in
      let as_many : eqb places places ≡ true = eq-eqb places places refl in
      all_hold (levels_rules s.shift s.bound places places) search

-- ---- all layers

module _ {count : ℕ} {steps : ℕ → Step} {work output scratch final : ℕ} (r : Roomy count steps work output scratch final) where
  pub outputs_in : (k : ℕ) → k < count → (output_count (steps k).layer ≤ work) × (output_count (steps k).layer ≤ output)
  outputs_in k h =
      let most = greatest_at count (λ i. output_count (steps i).layer) k h in
      (omega (arith, most, r.work_room), omega (arith, most, r.output_room))

  pub scratch_in : (k : ℕ) → k < count → scratch_words (steps k).layer ≤ scratch
  scratch_in k h = omega (arith, greatest_at count (λ i. scratch_words (steps i).layer) k h, r.scratch_room)

-- the theorem: no check of a layer's run can fail
pub every_run_accepted : {count : ℕ} {steps : ℕ → Step} {map kernels : List ℤ} {room : Room} → Runnable count steps map kernels room
    → (k : ℕ) → k < count
    → run_code tile_engine (steps k).layer (map_after steps map kernels k) (kernel_at steps kernels k) (output_count (steps k).layer) room.scratch ≡ 0
every_run_accepted {steps = steps} {map} {kernels} {room} r k h =
    run_accepted (r.link.layers k h) (map_after steps map kernels k) (map_taken r.link map r.first_map k h) room.scratch (scratch_in r.roomy k h)

-- ---- turn after turn: the map that step k is run on stands at the front of `source`

module _ {count : ℕ} {steps : ℕ → Step} {kernels : List ℤ} (l : Linked count steps kernels) where
  pub run_ready : (map : List ℤ) → Taken (steps 0).layer map → (k : ℕ) → k < count → {source : List ℤ}
      → take (map_count (steps k).layer) source ≡ map_after steps map kernels k → {output scratch : ℕ}
      → output_count (steps k).layer ≤ output → scratch_words (steps k).layer ≤ scratch → RunReady steps k source kernels output scratch
  run_ready map first k h source_is output_room scratch_room = record {
    below = omega (arith, l.count_high);
    usable = λ i low. l.layers i (omega arith);
    taken = rw source_is (map_taken l map first k h);
    output_room = output_room;
    scratch_room = scratch_room;
  }

  pub levels_ready : (k : ℕ) → k < count → {output target : ℕ} → output_count (steps k).layer ≤ output → output_count (steps k).layer ≤ target
      → LevelsReady (steps k) output target
  levels_ready k h output_room map_room = record {
    plan = layer_planned (l.layers k h);
    passed = levels_accepted (l.layers k h) (output_count (steps k).layer);
    output_room = output_room;
    map_room = map_room;
  }

  -- the next layer takes as many values as this one has outputs
  pub map-follows : (k : ℕ) → k + 1 < count → map_count (steps (k + 1)).layer ≡ output_count (steps k).layer
  map-follows k h = let f = l.links k h in rw (← f.channels, ← f.rows, ← f.columns) refl

-- the levels of the sums of step k are the next map
pub levels_next : {steps : ℕ → Step} {map kernels : List ℤ} {k : ℕ} {output left : List ℤ} → Ran steps map kernels k output
    → left ≡ levels_of (steps k).shift (steps k).bound (take (output_count (steps k).layer) output) → left ≡ map_after steps map kernels (k + 1)
levels_next {steps} {map} {kernels} {k} ran e = e ∙ rw ran.sums (sym (map_next steps map kernels k))
