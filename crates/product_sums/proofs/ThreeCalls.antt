-- Three calls in a row, of which the second is lent no map value, are a list of calls with a refused one; where the last is accepted, their
-- budgets reach the total. Two such lists have equal sums of products. It rests on the laws of lists of calls and on the theorem on two lists.
use mathlib.Core.Path.{◌≡◌, refl, sym, ap, ap₂, ◌∙◌}
use mathlib.Core.Bool.{Bool, true}
use mathlib.Core.List.{List, [], ◌∷◌}
use Prim.Native.Nat.{ℕ, zero, suc, ◌*◌, ◌≤◌, min}
use native.Mathlib.Nat.{mul-le-mul}
use native.Mathlib.Omega.{arith}
use lib.Dec.{eqb}
use lib.IntN.{ℤ}
use lib.ListN.{length}
use borrow.Author.Tests.{eqb-true}
use Rattle.base.specs.Rules.{outcome}
use Rattle.base.specs.RulesLaws.{outcome_made, outcome_lent}
use Rattle.layer.specs.Planned.{Planned}
use Rattle.layer.specs.declared.shape.Layer.{Layer}
use Rattle.checks.specs.Engine.{Engine, Lawful}
use Rattle.checks.specs.Checks.{run_code, plan_of}
use Rattle.checks.specs.ChecksLaws.{index_passes, run_code_lem, planned_total}
use Rattle.engine.specs.declared.job.Job.{Job}
use Rattle.engine.specs.declared.job.Progress.{Progress}
use Rattle.engine.specs.Call.{start_of, finished, cleared, call_code, Called, output_left, scratch_left}
use Rattle.engine.specs.Calls.{Call, JobCalls, accepted_budgets, Reaches}
use Rattle.engine.proofs.CallsLaws.{called_code, output_length, scratch_length, call_callable, cleared_again, calls_job, calls_output}
use Rattle.product_sums.specs.ProductSums.{Paired, SumsAgree}
use Rattle.product_sums.specs.CallsMade.{CallsMade}
use Rattle.product_sums.proofs.ProductSumsLaws.{product_sums}

-- a map of an accepted call holds some value
map_some : (l : Layer) → Planned l → 1 ≤ l.inputs * l.height * l.width
map_some l plan =
    mul-le-mul {n₁ = 1} {m₁ = 1} (mul-le-mul {n₁ = 1} {m₁ = 1} plan.shape.inputs_low plan.shape.height_low) plan.shape.width_low

without_map : {engine : Engine} → Lawful engine → (call : Call engine) → length call.map ≡ 0 → call.progress.code ≡ 0 → ⊥
without_map lawful call none e =
    let may = call_callable call lawful e in
    omega (arith, may.map-length, map_some call.job.layer may.plan)

at_most_one : (code : ℕ) → outcome code 1 0 ≤ 1
at_most_one zero = omega arith
at_most_one (suc code) = omega arith

refused_counts_none : (code : ℕ) → (code ≡ 0 → ⊥) → outcome code 1 0 ≤ 0
refused_counts_none zero broken = absurd (broken refl)
refused_counts_none (suc code) broken = omega arith

module _ {engine : Engine} (lawful : Lawful engine) (l : Layer) (budget : ℕ) (map none kernel : List ℤ) (empty : length none ≡ 0)
    {output-0 output-1 output-2 output-3 : List ℤ} {scratch-0 scratch-1 scratch-2 scratch-3 : List ℕ}
    {progress-1 progress-2 progress-3 : Progress}
    {job : Job} (starts : job ≡ start_of l) (first : Called engine job budget map kernel output-0 scratch-0 progress-1 output-1 scratch-1)
    (second : Called engine progress-1.job budget none kernel output-1 scratch-1 progress-2 output-2 scratch-2)
    {last : ℕ} (planned : last ≡ (plan_of engine l).parts)
    (third : Called engine progress-2.job last map kernel output-2 scratch-2 progress-3 output-3 scratch-3)
  where
    abbrev call_1 : Call engine
    call_1 = record {
      job = job;
      budget = budget;
      map = map;
      kernel = kernel;
      output = output-0;
      scratch = scratch-0;
      progress = progress-1;
      left_output = output-1;
      left_scratch = scratch-1;
      promise = first;
    }

    abbrev call_2 : Call engine
    call_2 = record {
      job = progress-1.job;
      budget = budget;
      map = none;
      kernel = kernel;
      output = output-1;
      scratch = scratch-1;
      progress = progress-2;
      left_output = output-2;
      left_scratch = scratch-2;
      promise = second;
    }

    abbrev call_3 : Call engine
    call_3 = record {
      job = progress-2.job;
      budget = last;
      map = map;
      kernel = kernel;
      output = output-2;
      scratch = scratch-2;
      progress = progress-3;
      left_output = output-3;
      left_scratch = scratch-3;
      promise = third;
    }

    broken : progress-2.code ≡ 0 → ⊥
    broken = without_map lawful call_2 empty

    abbrev list : JobCalls engine l map kernel
    list = record {
      first = output-0;
      calls = call_1 ∷ call_2 ∷ call_3 ∷ [];
      chained = (
        starts,
        refl,
        (λ e. (refl, refl)),
        (refl, refl, (λ e. absurd (broken e)), (refl, refl, (λ e. (refl, refl)), tt)),
      );
    }

    -- the first two calls leave an index that is not above the total, so the last one is answered as a run is
    abbrev first_two : JobCalls engine l map kernel
    first_two = record {
      first = output-0;
      calls = call_1 ∷ call_2 ∷ [];
      chained = (starts, refl, (λ e. (refl, refl)), (refl, refl, (λ e. absurd (broken e)), tt));
    }

    last_code : progress-3.code ≡ run_code engine l map kernel (length output-0) (length scratch-0)
    last_code =
        let reached : ℕ = min (engine.total l) (accepted_budgets first_two.calls) in
        called_code third
        ∙ ap (λ (j : Job). call_code engine j map kernel (length output-2) (length scratch-2)) (calls_job first_two)
        ∙ index_passes engine l map kernel (length output-2) (length scratch-2) reached (omega arith)
        ∙ ap₂ (run_code engine l map kernel) (output_length second ∙ output_length first) (scratch_length second ∙ scratch_length first)

    last_reaches : progress-3.code ≡ 0 → Reaches list
    last_reaches e =
        let total = planned_total engine l map kernel (length output-0) (length scratch-0) (sym last_code ∙ e) in
        record { some = rw e (omega arith); enough = rw e (omega (arith, total)) }

    -- ---- what the calls leave is what a run leaves

    abbrev code : ℕ
    code = run_code engine l map kernel (length output-0) (length scratch-0)

    -- the first call is answered as a run is, and the second is refused
    first_code : call_code engine job map kernel (length output-0) (length scratch-0) ≡ code
    first_code =
        ap (λ (j : Job). call_code engine j map kernel (length output-0) (length scratch-0)) starts
        ∙ run_code_lem engine l map kernel (length output-0) (length scratch-0)

    second_output : output-2 ≡ output-1
    second_output = second.writes ∙ outcome_lent _ _ _ (λ e. broken (called_code second ∙ e))

    second_scratch : scratch-2 ≡ scratch-1
    second_scratch = second.clears ∙ outcome_lent _ _ _ (λ e. broken (called_code second ∙ e))

    third_code : call_code engine progress-2.job map kernel (length output-2) (length scratch-2) ≡ code
    third_code = sym (called_code third) ∙ last_code

    output_refused : (code ≡ 0 → ⊥) → output-3 ≡ output-0
    output_refused stopped =
        third.writes ∙ outcome_lent _ _ _ (λ e. stopped (sym third_code ∙ e))
        ∙ second_output
        ∙ first.writes ∙ outcome_lent _ _ _ (λ e. stopped (sym first_code ∙ e))

    scratch_refused : (code ≡ 0 → ⊥) → scratch-3 ≡ scratch-0
    scratch_refused stopped =
        third.clears ∙ outcome_lent _ _ _ (λ e. stopped (sym third_code ∙ e))
        ∙ second_scratch
        ∙ first.clears ∙ outcome_lent _ _ _ (λ e. stopped (sym first_code ∙ e))

    output_accepted : code ≡ 0 → output-3 ≡ finished engine l map kernel 0 (engine.total l) output-0
    output_accepted e =
        let reaches = last_reaches (last_code ∙ e) in
        let all : min (engine.total l) (accepted_budgets list.calls) ≡ engine.total l = omega (arith, reaches.enough) in
        calls_output list ∙ ap (λ (n : ℕ). finished engine l map kernel 0 n output-0) all

    scratch_accepted : code ≡ 0 → scratch-3 ≡ cleared (engine.words l) scratch-0
    scratch_accepted e =
        let words = engine.words l in
        third.clears
        ∙ outcome_made _ _ (third_code ∙ e)
        ∙ ap₂ (λ (j : Job) (ws : List ℕ). cleared (engine.words j.layer) ws) (calls_job first_two)
        (second_scratch ∙ first.clears ∙ outcome_made _ _ (first_code ∙ e) ∙ ap (λ (j : Job). cleared (engine.words j.layer) scratch-0) starts)
        ∙ cleared_again words scratch-0

    leaves_output : output-3 ≡ output_left engine l map kernel output-0 (length scratch-0)
    leaves_output = by_code code refl
      where
        by_code : (n : ℕ) → code ≡ n → output-3 ≡ outcome n (finished engine l map kernel 0 (engine.total l) output-0) output-0
        by_code zero e = output_accepted e
        by_code (suc n) e = output_refused (λ z. omega (arith, e, z))

    leaves_scratch : scratch-3 ≡ scratch_left engine l map kernel (length output-0) scratch-0
    leaves_scratch = by_code code refl
      where
        by_code : (n : ℕ) → code ≡ n → scratch-3 ≡ outcome n (cleared (engine.words l) scratch-0) scratch-0
        by_code zero e = scratch_accepted e
        by_code (suc n) e = scratch_refused (λ z. omega (arith, e, z))

    made : CallsMade engine l map kernel output-0 output-3 (eqb progress-3.code 0)
    made = record {
      list = list;
      starts = refl;
      ends = refl;
      one_refused =
          omega (arith, at_most_one progress-1.code, refused_counts_none progress-2.code broken, at_most_one progress-3.code);
      enough = λ e. last_reaches (eqb-true progress-3.code 0 e);
    }

    -- all that is said of the three calls
    pub three_calls : (eqb progress-3.code 0 ≡ eqb code 0)
        × ((output-3 ≡ output_left engine l map kernel output-0 (length scratch-0))
        × ((scratch-3 ≡ scratch_left engine l map kernel (length output-0) scratch-0)
        × CallsMade engine l map kernel output-0 output-3 (eqb progress-3.code 0)))
    three_calls = (ap (λ (n : ℕ). eqb n 0) last_code, (leaves_output, (leaves_scratch, made)))

-- two lists of calls that were made, of paired layers with one kernel
pub lists_agree : {one other : Engine} → Lawful one → Lawful other
    → {conv tconv : Layer} {x y kernel u-first u v-first v : List ℤ} {forward backward : Bool}
    → CallsMade one conv x kernel u-first u forward → CallsMade other tconv y kernel v-first v backward
    → Paired conv tconv → forward ≡ true → backward ≡ true → SumsAgree conv x y u v
lists_agree one-lawful other-lawful us vs paired e f =
    rw (us.ends, vs.ends) at (product_sums one-lawful other-lawful paired us.list vs.list (us.enough e) (vs.enough f))
