-- What a call answers and keeps, and what a list of calls comes to: the job and the output after it, by the sum of the accepted calls'
-- budgets. It rests on the laws of the checks and on those of finished parts.
use Rattle.std.specs.Prelude.{◌≡◌, Bool, true, false, List, [], ◌∷◌, ℕ, zero, suc, ◌+◌, ◌-◌, ◌<◌, min, ltb, ℤ, length, get_or}
use Rattle.std.proofs.Math.Path.{refl, sym}
use Rattle.std.proofs.Common.{ap, ◌∙◌, add-zero, zero-add, add_assoc, arith}
use Rattle.std.proofs.Math.Bool.{cond}
use Rattle.algebra.specs.Places.{table}
use Rattle.algebra.specs.PlacesLaws.{length-table, get_d_table, table_of}
use Rattle.base.specs.Rules.{outcome}
use Rattle.layer.specs.declared.shape.Layer.{Layer}
use Rattle.layer.specs.Direct.{direct_at}
use Rattle.load.specs.Offender.{offender_of, Offends}
use Rattle.checks.specs.Callable.{Callable}
use Rattle.checks.specs.Engine.{Engine, Lawful}
use Rattle.checks.specs.Checks.{is_placed, offender_with}
use Rattle.checks.specs.ChecksLaws.{job_callable}
use Rattle.checks.specs.BeyondLaws.{side_number, placed_offends, placed_number}
use Rattle.engine.specs.declared.job.Job.{Job}
use Rattle.engine.specs.declared.job.Progress.{Progress}
use Rattle.engine.specs.Call.{start_of, count_of, finished, cleared, call_code, Called}
use Rattle.engine.specs.Calls.{Call, Chained, job_after, output_after, accepted_calls, accepted_budgets, JobCalls, output_of, Reaches}
use Rattle.engine.specs.AnswerLaws.{answer_code, answer_place}
use Rattle.engine.specs.FinishedLaws.{length-finished, finished_none, finished_then, finished_all}

-- ---- one call

-- what is lent keeps its length, whether the call is refused or not
outcome-length : {A : Type 0} (made lent left : List A) (code : ℕ) → left ≡ outcome code made lent → length made ≡ length lent
    → length left ≡ length lent
outcome-length made lent left zero e same = ap length e ∙ same
outcome-length made lent left (suc code) e same = ap length e

module _ {engine : Engine} {job : Job} {budget : ℕ} {map kernel output : List ℤ} {scratch : List ℕ}
    {progress : Progress} {left_output : List ℤ} {left_scratch : List ℕ}
    (call : Called engine job budget map kernel output scratch progress left_output left_scratch)
  where
    abbrev called : ℕ
    called = call_code engine job map kernel (length output) (length scratch)

    -- the code is what the checks answer
    pub called_code : progress.code ≡ called
    called_code = ap (λ (p : Progress). p.code) call.answers ∙ answer_code engine job budget map kernel (length output) (length scratch)

    -- the place and the side are those that stand with the code, whether the call is accepted or refused
    pub called_place : progress.offender ≡ offender_with progress.code job.layer map
    called_place =
        rw called_code
        (ap (λ (p : Progress). p.offender) call.answers ∙ answer_place engine job budget map kernel (length output) (length scratch))

    -- with 15 and 25 they are those of the first map value beyond the peak, and the number is its side's
    first_told : is_placed progress.code ≡ true → progress.offender ≡ offender_of job.layer map
    unfolding offender_with
    first_told placed = called_place ∙ rw placed

    pub called_offends : Lawful engine → is_placed progress.code ≡ true → Offends job.layer map progress.offender
    called_offends lawful placed =
        rw (first_told placed)
        (placed_offends engine job.layer map kernel (length output) (length scratch) job.next lawful (rw called_code at placed))

    pub called_number : is_placed progress.code ≡ true → progress.code ≡ side_number progress.offender.side
    called_number placed =
        rw (first_told placed)
        (called_code
        ∙ placed_number engine job.layer map kernel (length output) (length scratch) job.next (rw called_code at placed))

    -- no call changes the length of a buffer
    pub output_length : length left_output ≡ length output
    output_length =
        outcome-length _ _ _ called call.writes
        (length-finished engine job.layer map kernel job.next (job.next + count_of engine job budget) output)

    pub scratch_length : length left_scratch ≡ length scratch
    unfolding cleared
    scratch_length = outcome-length _ _ _ called call.clears (length-table (length scratch) _)

module _ {engine : Engine} where
  -- what an accepted call comes to
  record Took (call : Call engine) : Type 0 where
    moved : call.progress.job ≡ record { layer = call.job.layer; next = call.job.next + count_of engine call.job call.budget }
    writes : call.left_output ≡ finished engine call.job.layer call.map call.kernel
        call.job.next (call.job.next + count_of engine call.job call.budget) call.output

  -- what a refused one comes to
  record Kept (call : Call engine) : Type 0 where
    moved : call.progress.job ≡ call.job
    writes : call.left_output ≡ call.output

  module _ (call : Call engine) where
    abbrev checked : ℕ
    checked = call_code engine call.job call.map call.kernel (length call.output) (length call.scratch)

    code_is : call.progress.code ≡ checked
    code_is = called_code call.promise

    took : call.progress.code ≡ 0 → Took call
    took e =
        let passed : checked ≡ 0 = sym code_is ∙ e in
        record { moved = ap (λ (p : Progress). p.job) (rw passed at call.promise.answers); writes = rw passed at call.promise.writes }

    kept : {code : ℕ} → call.progress.code ≡ suc code → Kept call
    kept {code} e =
        let broken : checked ≡ suc code = sym code_is ∙ e in
        record { moved = ap (λ (p : Progress). p.job) (rw broken at call.promise.answers); writes = rw broken at call.promise.writes }

    -- what an accepted call was lent
    pub call_callable : Lawful engine → call.progress.code ≡ 0
        → Callable engine call.job.layer call.map call.kernel (length call.output) (length call.scratch)
    call_callable lawful e = (job_callable engine call.job.layer _ _ _ _ lawful call.job.next (sym code_is ∙ e)).0

-- words that were cleared once are cleared
module _ (count : ℕ) (words : List ℕ) where
  cleared_low : (i : ℕ) → i < length (cleared count words) → ltb i count ≡ true → get_or (cleared count words) i 0 ≡ 0
  unfolding cleared
  cleared_low i below e = get_d_table 0 (length words) _ i (omega (arith, length-table (length words) (λ k. cond (ltb k count) 0 (get_or words k 0)))) ∙ rw e

  by_test : (i : ℕ) → i < length (cleared count words) → (t : Bool) → ltb i count ≡ t
      → get_or (cleared count words) i 0 ≡ cond t 0 (get_or (cleared count words) i 0)
  by_test i below true e = cleared_low i below e
  by_test i below false e = refl

  pub cleared_again : cleared count (cleared count words) ≡ cleared count words
  unfolding cleared
  cleared_again = sym (table_of 0 _ _ (cleared count words) refl (λ i below. by_test i below (ltb i count) refl))

-- ---- call after call

module _ (engine : Engine) (l : Layer) (map kernel first : List ℤ) where
  -- the job and the output once the accepted budgets come to `budgets`
  record After (budgets : ℕ) (job : Job) (output : List ℤ) : Type 0 where
    moved : job ≡ record { layer = l; next = min (engine.total l) budgets }
    written : output ≡ finished engine l map kernel 0 (min (engine.total l) budgets) first

  -- from the index on, the lesser of the budget and the parts left
  reach : (total budgets budget : ℕ) → min total budgets + min budget (total - min total budgets) ≡ min total (budgets + budget)
  reach total budgets budget = omega arith

  after_call : (budgets : ℕ) (call : Call engine) → (call.progress.code ≡ 0 → (call.map ≡ map) × (call.kernel ≡ kernel))
      → After budgets call.job call.output
      → After (budgets + outcome call.progress.code call.budget 0) call.progress.job call.left_output
  after_call budgets call lent before = go call.progress.code refl
    where
      go : (code : ℕ) → call.progress.code ≡ code → After (budgets + outcome code call.budget 0) call.progress.job call.left_output
      go zero e =
          let t : Took call = took call e in
          let to = reach (engine.total l) budgets call.budget in
          record {
            moved = rw (before.moved, to) at t.moved;
            written =
                rw (before.moved, to, before.written, (lent e).0, (lent e).1) at t.writes
                ∙ finished_then engine l map kernel 0 (min (engine.total l) budgets) _ first (omega arith) (omega arith);
          }
      go (suc code) e =
          let k : Kept call = kept call e in
          rw add-zero (record { moved = k.moved ∙ before.moved; written = k.writes ∙ before.written })

  after_calls : (budgets : ℕ) {job : Job} {output : List ℤ} (calls : List (Call engine)) → Chained map kernel job output calls
      → After budgets job output → After (budgets + accepted_budgets calls) (job_after job calls) (output_after output calls)
  after_calls budgets [] chained before = rw add-zero before
  after_calls budgets (call ∷ calls) (job, output, lent, rest) before =
      let budget : ℕ = outcome call.progress.code call.budget 0 in
      rw (← (add_assoc budgets budget (accepted_budgets calls)))
      (after_calls (budgets + budget) calls rest (after_call budgets call lent (rw (job, output) before)))

-- the checks of a run pass with scratch of some length
pub record Passes (engine : Engine) (l : Layer) (map kernel : List ℤ) (output : ℕ) : Type 0 where
  pub scratch : ℕ
  pub callable : Callable engine l map kernel output scratch

-- they do where a call was accepted: no call changes the layer or the length of the output
passes : {engine : Engine} → Lawful engine → {map kernel : List ℤ} (job : Job) (output : List ℤ) (calls : List (Call engine))
    → Chained map kernel job output calls → 0 < accepted_calls calls → Passes engine job.layer map kernel (length output)
passes lawful job output [] chained some = absurd (omega arith)
passes {engine} lawful {map} {kernel} job output (call ∷ calls) (same_job, same_output, lent, rest) some =
    go call.progress.code refl (passes lawful call.progress.job call.left_output calls rest)
  where
    go : (code : ℕ) → call.progress.code ≡ code
        → (0 < accepted_calls calls → Passes engine call.progress.job.layer map kernel (length call.left_output))
        → Passes engine job.layer map kernel (length output)
    go zero e later = record {
      scratch = length call.scratch;
      callable = rw (same_job, same_output, (lent e).0, (lent e).1) at (call_callable call lawful e);
    }
    go (suc code) e later =
        let k : Kept call = kept call e in
        rw (k.moved, k.writes, same_job, same_output) at (later (omega (arith, rw e at some)))

-- ---- a whole list

module _ {engine : Engine} {l : Layer} {map kernel : List ℤ} (list : JobCalls engine l map kernel) where
  after : After engine l map kernel list.first (accepted_budgets list.calls) (job_after (start_of l) list.calls) (output_of list)
  after = rw zero-add at (after_calls engine l map kernel list.first 0 list.calls list.chained start)
    where
      none : min (engine.total l) 0 ≡ 0
      none = omega arith

      start : After engine l map kernel list.first 0 (start_of l) list.first
      start = record { moved = rw none; written = rw (none, finished_none engine l map kernel 0 list.first) }

  -- the job's index is the lesser of the total and the sum of the accepted calls' budgets
  pub calls_job : job_after (start_of l) list.calls ≡ record { layer = l; next = min (engine.total l) (accepted_budgets list.calls) }
  calls_job = after.moved

  -- and the parts below it are finished
  pub calls_output : output_of list ≡ finished engine l map kernel 0 (min (engine.total l) (accepted_budgets list.calls)) list.first
  calls_output = after.written

  module _ (lawful : Lawful engine) where
    -- where a call was accepted, the checks of a run pass
    pub calls_callable : 0 < accepted_calls list.calls → Passes engine l map kernel (length list.first)
    calls_callable some = passes lawful (start_of l) list.first list.calls list.chained some

    -- budgets that reach the total: every output is a direct sum
    pub reached : Reaches list → output_of list ≡ table (length list.first) (direct_at l map kernel)
    reached reaches =
        let may = (calls_callable reaches.some).callable in
        let all : min (engine.total l) (accepted_budgets list.calls) ≡ engine.total l = omega (arith, reaches.enough) in
        calls_output ∙ rw all (finished_all engine l map kernel lawful list.first may.plan may.output_length)
