-- What the checks of any engine say: what the answer 0 says of a layer and of a call, and that 01's engine plans what any does. It rests on the laws
-- of a list of rules. Where all rules hold, `search` finds the one that is asked for, so that no law counts the rules before it.
use Rattle.std.specs.Prelude.{◌≡◌, ℕ, ◌≤◌, ℤ, length}
use Rattle.std.proofs.Math.Path.{refl, ap}
use Rattle.std.proofs.Math.Bool.{true, false}
use mathlib.Core.List.{List, [], ◌∷◌, ◌++◌}
use Rattle.std.proofs.Common.{arith}
use borrow.Author.Tests.{leb-true, ltb-true, le-leb, eqb-true}
use Rattle.algebra.specs.EveryLaws.{both_true}
use Rattle.base.specs.Rules.{Rule, rule, first_broken, inside}
use Rattle.base.specs.RulesLaws.{none_broken, all_hold, inside_low, inside_high, inside_from, both_accept}
use Rattle.layer.specs.PlannedLaws.{added_high, height_extent, width_extent, full_high, crop_low, crop_end}
use Rattle.layer.specs.Planned.{added_fits, has_output, crop_fits, InRange, Planned}
use Rattle.layer.specs.declared.shape.Layer.{Layer}
use Rattle.layer.specs.Shape.{map_count, kernel_count, output_count, full_height, full_width}
use Rattle.checks.specs.Callable.{Callable}
use Rattle.checks.specs.Engine.{Engine, tile_engine, Lawful}
use Rattle.checks.specs.OffenderLaws.{both_within_lem}
use Rattle.checks.specs.Checks.{shape_rules, output_rules, call_rules, job_rules, plan_code, run_code, job_code, figures, plan_of}

-- ---- rules 1 to 7 and 23

pub in_range : (last : ℕ) → last ≤ 5 → (l : Layer) → first_broken (shape_rules last l) ≡ 0 → InRange l
in_range last known l e =
    let hold = none_broken (shape_rules last l) tt e in
    let (inputs, outputs) = both_true (inside 1 64 l.inputs) (inside 1 64 l.outputs) search in
    let (height, width) = both_true (inside 1 512 l.height) (inside 1 512 l.width) search in
    let (below, beside) = both_true (added_fits l l.below) (added_fits l l.beside) search in
    record {
      kind_high = inside_high 0 1 l.kind search;
      field_low = inside_low 4 last l.field search;
      field_high = let taken : l.field ≤ last = inside_high 4 last l.field search in omega arith;
      inputs_low = inside_low 1 64 l.inputs inputs;
      inputs_high = inside_high 1 64 l.inputs inputs;
      outputs_low = inside_low 1 64 l.outputs outputs;
      outputs_high = inside_high 1 64 l.outputs outputs;
      height_low = inside_low 1 512 l.height height;
      height_high = inside_high 1 512 l.height height;
      width_low = inside_low 1 512 l.width width;
      width_high = inside_high 1 512 l.width width;
      side_low = inside_low 1 11 l.side search;
      side_high = inside_high 1 11 l.side search;
      stride_low = inside_low 1 4 l.stride search;
      stride_high = inside_high 1 4 l.stride search;
      padding_high = ltb-true l.padding l.side search;
      below_high = added_high l l.below below;
      beside_high = added_high l l.beside beside;
    }

-- ---- rules 8 and 9

pub planned : {engine : Engine} → Lawful engine → (l : Layer) → plan_code engine l ≡ 0 → Planned l
unfolding plan_code
planned {engine} lawful l e =
    let (shape, output) = both_accept (shape_rules engine.last_field l) (output_rules l) tt e in
    let hold = none_broken (output_rules l) tt output in
    let (height, width) = both_true (has_output l l.height l.below) (has_output l l.width l.beside) search in
    let (rows, columns) = both_true (crop_fits l.top l.rows (full_height l)) (crop_fits l.left l.columns (full_width l)) search in
    let r = in_range engine.last_field lawful.known l shape in
    record {
      shape = r;
      height_output = record { in_range = height_extent l r; some = height };
      width_output = record { in_range = width_extent l r; some = width };
      rows_low = crop_low l.top l.rows (full_height l) rows;
      rows_end = crop_end l.top l.rows (full_height l) rows;
      columns_low = crop_low l.left l.columns (full_width l) columns;
      columns_end = crop_end l.left l.columns (full_width l) columns;
      full_height_high = full_high l l.height l.below (height_extent l r);
      full_width_high = full_high l l.width l.beside (width_extent l r);
    }

-- the field is one that the engine takes
pub field_taken : (engine : Engine) (l : Layer) → plan_code engine l ≡ 0 → l.field ≤ engine.last_field
unfolding plan_code
field_taken engine l e =
    let (kind, (field, rest)) = none_broken (shape_rules engine.last_field l ++ output_rules l) tt e in
    inside_high 4 engine.last_field l.field field

-- what any engine plans 01's does, which takes both fields
pub tile_plans : {engine : Engine} → Lawful engine → (l : Layer) → plan_code engine l ≡ 0 → plan_code tile_engine l ≡ 0
unfolding plan_code
tile_plans {engine} lawful l e =
    let (kind, (field, rest)) = none_broken (shape_rules engine.last_field l ++ output_rules l) tt e in
    let low = inside_low 4 engine.last_field l.field field in
    let both = inside_from 4 5 l.field low (omega (arith, field_taken engine l e, lawful.known)) in
    all_hold (shape_rules 5 l ++ output_rules l) (kind, (both, rest))

-- ---- rules 10 to 17

module _ (engine : Engine) (l : Layer) (map kernel : List ℤ) (output scratch : ℕ) where
  abbrev rules_of_plan : List Rule
  rules_of_plan = shape_rules engine.last_field l ++ output_rules l

  abbrev call_rules_lem : List Rule
  call_rules_lem = call_rules (engine.words l) l map kernel output scratch

  -- an accepted run has an accepted plan, an accepted job call is an accepted run's
  pub run_plans : run_code engine l map kernel output scratch ≡ 0 → plan_code engine l ≡ 0
  unfolding plan_code run_code
  run_plans e = (both_accept rules_of_plan call_rules_lem tt e).0

  pub job_runs : (next : ℕ) → job_code engine l next map kernel output scratch ≡ 0
      → (run_code engine l map kernel output scratch ≡ 0) × (next ≤ engine.total l)
  unfolding run_code job_code
  job_runs next e =
      let (run, rest) = both_accept (rules_of_plan ++ call_rules_lem) (job_rules (engine.total l) next) tt e in
      (run, leb-true next (engine.total l) (none_broken (job_rules (engine.total l) next) tt rest).0)

  -- a job whose index is not above the total is answered as a run is
  pub index_passes : (next : ℕ) → next ≤ engine.total l
      → job_code engine l next map kernel output scratch ≡ run_code engine l map kernel output scratch
  unfolding run_code job_code
  index_passes next low = rw (le-leb next (engine.total l) low) (last_holds 17 (rules_of_plan ++ call_rules_lem))
    where
      last_holds : (last : ℕ) (rules : List Rule) → first_broken (rules ++ (rule last true ∷ [])) ≡ first_broken rules
      last_holds last [] = refl
      last_holds last (rule number true ∷ rules) = last_holds last rules
      last_holds last (rule number false ∷ rules) = refl

  -- a run makes the checks of a job but the last, since no index is below 0
  pub run_code_lem : job_code engine l 0 map kernel output scratch ≡ run_code engine l map kernel output scratch
  run_code_lem = index_passes 0 (omega arith)

  -- the planner tells the total of a layer whose run is accepted
  pub planned_total : run_code engine l map kernel output scratch ≡ 0 → (plan_of engine l).parts ≡ engine.total l
  unfolding plan_of
  planned_total e = ap (λ (code : ℕ). (figures engine code l).parts) (run_plans e)

  module _ (lawful : Lawful engine) where
    pub callable : run_code engine l map kernel output scratch ≡ 0 → Callable engine l map kernel output scratch
    unfolding run_code
    callable e =
        let (plan, rest) = both_accept rules_of_plan call_rules_lem tt e in
        let hold = none_broken call_rules_lem tt rest in
        record {
          plan = planned lawful l (run_plans e);
          field_taken = field_taken engine l (run_plans e);
          map-length = eqb-true (length map) (map_count l) search;
          kernel_length = eqb-true (length kernel) (kernel_count l) search;
          output_length = eqb-true output (output_count l) search;
          scratch_low = leb-true (engine.words l) scratch search;
          peak_low = inside_low 1 32767 l.peak search;
          peak_high = inside_high 1 32767 l.peak search;
          values = both_within_lem l map (search) (search);
          none_blank_lem = search;
          loads = search;
        }

    -- what the rules of a job give
    pub job_callable : (next : ℕ) → job_code engine l next map kernel output scratch ≡ 0
        → Callable engine l map kernel output scratch × (next ≤ engine.total l)
    job_callable next e = let (run, low) = job_runs next e in (callable run, low)
