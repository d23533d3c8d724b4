-- 02, E11: what the answers 15 and 25 say, of any rules with other numbers around them and of a call of any engine: they are given exactly where the
-- rules before them are passed and some map value is beyond the peak, and by the side of the first such value; 01's case 13 is one instance. It rests
-- on the laws of lists of rules and on those of the first value beyond the peak.
use Rattle.std.specs.Prelude.{◌≡◌, true, false, cond, List, [], ◌∷◌, ◌++◌, ℕ, zero, suc, ◌≤◌, ◌<◌, T, eqb, ℤ, negsuc, length}
use Rattle.std.proofs.Math.Path.{refl}
use Rattle.std.proofs.Common.{sym, ap, ◌∙◌, true≢false, ⊎_elim, arith, eqb-true}
use Rattle.algebra.specs.EveryLaws.{test_fails}
use Rattle.base.specs.Rules.{Rule, first_broken}
use Rattle.base.specs.RulesLaws.{numbered, none_broken, both_accept, first_answers, second_answers, inside_high}
use Rattle.layer.specs.declared.shape.Layer.{Layer}
use Rattle.layer.specs.Shape.{map_count}
use Rattle.load.specs.Load.{within_peak}
use Rattle.load.specs.Offender.{offender_of, Offends}
use Rattle.load.specs.OffenderLaws.{First, first_is, stored_place, side_sign, offender_none, offender_side, offends}
use Rattle.checks.specs.Engine.{Engine, Lawful}
use Rattle.checks.specs.Checks.{shape_rules, output_rules, lent_rules, map_value_rules, weight_rules, job_rules, is_placed, plan_code, run_code, job_code}
use Rattle.checks.specs.ChecksLaws.{planned, run_code_lem}
use Rattle.checks.specs.OffenderLaws.{placeless, not_placed}

-- the number that a side is answered with: 15 above A, 25 below −A
abbrev pub side_number : (side : ℕ) → ℕ
side_number side = cond (eqb side 1) 15 25

-- ---- of any rules with other numbers before those of 15 and 25, and after

module _ (l : Layer) (map : List ℤ) (before after : List Rule) (answering : T (numbered before)) (other : T (placeless before)) (others : T (placeless after))
    {code : ℕ} (is : code ≡ first_broken (before ++ (map_value_rules l map ++ after)))
  where
    from_map : first_broken before ≡ 0 → code ≡ first_broken (map_value_rules l map ++ after)
    from_map passed = is ∙ second_answers before (map_value_rules l map ++ after) answering passed

    -- where they are passed and a value is beyond the peak, the number is its side's
    pub beyond_number : first_broken before ≡ 0 → within_peak l.peak map ≡ false → code ≡ side_number (offender_of l map).side
    beyond_number passed beyond = from_map passed ∙ ⊎_elim (λ s. rw s) (λ s. rw s) (offender_side l map beyond)

    -- with 15 and 25 the rules before are passed: they have other numbers
    pub placed_passes : is_placed code ≡ true → first_broken before ≡ 0
    placed_passes placed = by_first (first_broken before) refl
      where
        by_first : (first : ℕ) → first ≡ first_broken before → first_broken before ≡ 0
        by_first zero e = sym e
        by_first (suc first) e =
            let answers = first_answers before (map_value_rules l map ++ after) e (λ z. omega arith) in
            absurd (true≢false (sym placed ∙ ap is_placed (is ∙ sym answers ∙ e) ∙ not_placed before other))

    -- and some value is beyond the peak: the rules after have other numbers too
    pub placed_beyond : is_placed code ≡ true → within_peak l.peak map ≡ false
    placed_beyond placed = test_fails (within_peak l.peak map) (λ e.
        let answers : code ≡ first_broken after = from_map (placed_passes placed) ∙ rw (offender_none l map e) in
        true≢false (sym placed ∙ ap is_placed answers ∙ not_placed after others))

-- ---- of a job

module _ (engine : Engine) (l : Layer) (map kernel : List ℤ) (output scratch : ℕ) where
  -- the rules before 15
  abbrev pub earlier : List Rule
  earlier = shape_rules engine.last_field l ++ output_rules l ++ lent_rules (engine.words l) l map kernel output scratch

  module _ (next : ℕ) where
    abbrev code : ℕ
    code = job_code engine l next map kernel output scratch

    -- the rules after 25
    abbrev later : List Rule
    later = weight_rules l kernel ++ job_rules (engine.total l) next

    is_code : code ≡ first_broken (earlier ++ (map_value_rules l map ++ later))
    unfolding job_code
    is_code = refl

    pub job_beyond : first_broken earlier ≡ 0 → within_peak l.peak map ≡ false → code ≡ side_number (offender_of l map).side
    job_beyond = beyond_number l map earlier later tt tt tt is_code

    -- with 15 and 25 the value is what the request says
    pub placed_offends : Lawful engine → is_placed code ≡ true → Offends l map (offender_of l map)
    unfolding plan_code
    placed_offends lawful placed =
        let passed = placed_passes l map earlier later tt tt tt is_code placed in
        let hold = none_broken earlier tt passed in
        let lent = lent_rules (engine.words l) l map kernel output scratch in
        let plan = planned lawful l (both_accept (shape_rules engine.last_field l ++ output_rules l) lent tt passed).0 in
        offends l map (eqb-true (length map) (map_count l) search) plan.shape.height_low plan.shape.width_low
        (placed_beyond l map earlier later tt tt tt is_code placed)

    -- and the number is its side's
    pub placed_number : is_placed code ≡ true → code ≡ side_number (offender_of l map).side
    placed_number placed =
        job_beyond (placed_passes l map earlier later tt tt tt is_code placed) (placed_beyond l map earlier later tt tt tt is_code placed)

-- ---- case 13

abbrev least : List ℤ
least = negsuc 32767 ∷ []

-- −32,768 is below −A under every A that passes 14
pub case_13 : (engine : Engine) (l : Layer) (kernel : List ℤ) (output scratch : ℕ) → first_broken (earlier engine l least kernel output scratch) ≡ 0
    → run_code engine l least kernel output scratch ≡ 25
unfolding offender_of
case_13 engine l kernel output scratch passed =
    let hold = none_broken (earlier engine l least kernel output scratch) tt passed in
    let top : l.peak ≤ 32767 = inside_high 1 32767 l.peak search in
    let peak : l.peak < 32768 = omega arith in
    let first : First l.peak least 0 = record { here = omega arith; beyond = peak; before = λ q h. absurd (omega arith) } in
    let (fails, place) = first_is l.peak least 0 first in
    let side : (offender_of l least).side ≡ 2 = rw (fails, place, stored_place l 0) (side_sign l.peak (negsuc 32767) peak) in
    sym (run_code_lem engine l least kernel output scratch) ∙ job_beyond engine l least kernel output scratch 0 passed fails ∙ rw side
