-- The theorem of the range check: of CONV layers with a whole window, a run of any engine that passes every earlier check answers 16 exactly where
-- some map of its length within the peak has an output larger in size than the limit. The worst map is such a map if there is one; the load bounds
-- the outputs of all maps. And `worst_map` accepts the layer of every such run, so that it shows the refusal.
use Rattle.std.specs.Prelude.{◌≡◌, Bool, true, cond, List, [], ◌∷◌, ◌++◌, ◌↔◌, ◌⊎◌, ℕ, ◌*◌, ◌<◌, ◌≤◌, ℤ, nat_abs, length}
use Rattle.std.proofs.Common.{sym, ap, ◌∙◌, inr, le_trans, div-lt_iff_lt-mul, mul-le-mul, arith, eqb-true}
use Rattle.std.proofs.Math.Decide.{dec_lt}
use Rattle.algebra.specs.EveryLaws.{test_fails}
use Rattle.algebra.specs.GreatestLaws.{greatest_at, first_greatest_below, first_greatest_at}
use Rattle.base.specs.Rules.{Rule, rules_before}
use Rattle.base.specs.RulesLaws.{none_broken, all_hold, both_accept, second_answers, before_holds}
use Rattle.layer.specs.declared.shape.Layer.{Layer}
use Rattle.layer.specs.Shape.{map_count, output_count, channel_of}
use Rattle.layer.specs.Direct.{direct_at}
use Rattle.layer.specs.Planned.{Planned}
use Rattle.load.specs.Load.{load, load_limit, loads_fit, within_peak}
use Rattle.load.proofs.LoadLaws.{peak_bounds, load_fits, loads_from, direct_load}
use Rattle.checks.specs.Engine.{Engine, Lawful}
use Rattle.checks.specs.Rules.{loads_rule}
use Rattle.checks.specs.Checks.{shape_rules, output_rules, call_rules, run_rules, plan_code, run_code}
use Rattle.checks.specs.ChecksLaws.{planned, tile_plans}
use Rattle.worst.specs.Window.{Windowed}
use Rattle.worst.specs.WindowLaws.{whole_has}
use Rattle.worst.specs.Worst.{greatest_load, worst_place, worst_map}
use Rattle.worst.specs.Answer.{length_rules, shown_rules, worst_code, worst_left}
use Rattle.worst.specs.Exceeds.{earlier_code, Exceeds}
use Rattle.worst.specs.ReachedLaws.{reached}
use Rattle.worst.specs.AnswerLaws.{windowed, worst_accepted}

-- no map within the peak has a larger output than the greatest load, in either kind of layer
pub output_most : (l : Layer) (map kernel : List ℤ) → Planned l → within_peak l.peak map ≡ true
    → (place : ℕ) → place < output_count l → nat_abs (direct_at l map kernel place) ≤ greatest_load l kernel
unfolding direct_at
output_most l map kernel p bounded place kept =
    let area : 0 < l.rows * l.columns = mul-le-mul {n₁ = 1} {m₁ = 1} p.rows_low p.columns_low in
    let channel : channel_of l place < l.outputs = (div-lt_iff_lt-mul area).1 (omega arith) in
    le_trans
    (direct_load l map kernel p.shape.stride_low (peak_bounds l.peak map bounded) _ _ _)
    (greatest_at l.outputs (load l kernel) (channel_of l place) channel)

-- rule 16 holds exactly where the greatest load is within the limit
loads_fit_lem : (l : Layer) (kernel : List ℤ) → 1 ≤ l.outputs → (loads_fit l kernel ≡ true) ↔ (greatest_load l kernel ≤ load_limit l.field)
loads_fit_lem l kernel some = (
  λ fit. rw (sym (first_greatest_at (load l kernel) l.outputs some)) (load_fits l kernel fit _ (first_greatest_below (load l kernel) l.outputs some)),
  λ below. loads_from l kernel (λ m h. le_trans (greatest_at l.outputs (load l kernel) m h) below),
)

module _ {engine : Engine} (lawful : Lawful engine) (l : Layer) (map kernel : List ℤ) (output scratch : ℕ) where
  abbrev rules : List Rule
  rules = run_rules engine l map kernel output scratch

  module _ (passed : earlier_code engine l map kernel output scratch ≡ 0) where
    -- the loads decide
    decided : run_code engine l map kernel output scratch ≡ cond (loads_fit l kernel) 0 16
    unfolding run_code
    decided = second_answers (rules_before 16 rules) (loads_rule l kernel ∷ []) tt passed

    accepted : plan_code engine l ≡ 0
    unfolding plan_code
    accepted =
        (both_accept (shape_rules engine.last_field l ++ output_rules l) (rules_before 16 (call_rules (engine.words l) l map kernel output scratch)) tt passed).0

    plan : Planned l
    plan = planned lawful l accepted

    count : length map ≡ map_count l
    count = let hold = none_broken (rules_before 16 rules) tt passed in eqb-true (length map) (map_count l) search

    fit_decides : (loads_fit l kernel ≡ true) ↔ (greatest_load l kernel ≤ load_limit l.field)
    fit_decides = loads_fit_lem l kernel plan.shape.outputs_low

    -- where the answer is 16, the greatest load is beyond the limit
    refused_above : run_code engine l map kernel output scratch ≡ 16 → load_limit l.field < greatest_load l kernel
    refused_above refused = go (dec_lt (load_limit l.field) (greatest_load l kernel))
      where
        go : Dec (load_limit l.field < greatest_load l kernel) → load_limit l.field < greatest_load l kernel
        go (yes above) = above
        go (no below) =
            let fit = fit_decides.1 (omega arith) in
            absurd (omega (arith, sym refused ∙ decided ∙ ap (λ (t : Bool). cond t 0 16) fit))

    -- and the worst map reaches it
    to : Windowed l → run_code engine l map kernel output scratch ≡ 16 → Exceeds l kernel (length map)
    to window refused =
        let r = reached l plan.shape kernel window.conv_kind (whole_has l window.whole) in
        record {
          map = worst_map l kernel;
          size = r.size ∙ sym count;
          bounded = r.bounded;
          place = worst_place l kernel;
          kept = r.kept;
          larger = rw r.equals (omega (arith, refused_above refused));
        }

    -- of every layer: what exceeds the limit is refused
    pub exceeding_refused : Exceeds l kernel (length map) → run_code engine l map kernel output scratch ≡ 16
    exceeding_refused b =
        let most = output_most l b.map kernel plan b.bounded b.place b.kept in
        decided ∙ ap (λ (t : Bool). cond t 0 16) (test_fails (loads_fit l kernel) (λ fit. omega (arith, b.larger, most, fit_decides.0 fit)))

    pub range_law : Windowed l → (run_code engine l map kernel output scratch ≡ 16) ↔ Exceeds l kernel (length map)
    range_law window = (to window, exceeding_refused)

    -- `worst_map` accepts the layer, the kernel and a map of this length
    earlier_shown : Windowed l → worst_code l kernel (length map) ≡ 0
    unfolding plan_code worst_code
    earlier_shown window =
        let hold = none_broken (rules_before 16 rules) tt passed in
        let is-windowed = (windowed l).1 window in
        let more = length_rules l kernel (length map) ++ shown_rules l kernel in
        second_answers (shape_rules 5 l ++ output_rules l) more tt (tile_plans lawful l accepted) ∙ all_hold more search

  -- a run that is accepted or answered 16 has passed every earlier check
  passes : (run_code engine l map kernel output scratch ≡ 0) ⊎ (run_code engine l map kernel output scratch ≡ 16)
      → earlier_code engine l map kernel output scratch ≡ 0
  unfolding run_code
  passes = before_holds 16 rules tt

  -- `worst_map` accepts the layer and the kernel of such a run, and a map of its length
  pub run_shown : Windowed l → (run_code engine l map kernel output scratch ≡ 0) ⊎ (run_code engine l map kernel output scratch ≡ 16)
      → worst_code l kernel (length map) ≡ 0
  run_shown window answered = earlier_shown (passes answered) window

  -- where the answer was 16, what it leaves has an output larger in size than the limit
  pub refusal_shown : Windowed l → run_code engine l map kernel output scratch ≡ 16
      → load_limit l.field < nat_abs (direct_at l (worst_left l kernel map) kernel (worst_place l kernel))
  refusal_shown window refused =
      let shown = run_shown window (inr refused) in
      rw (worst_accepted l kernel map shown).equals (refused_above (passes (inr refused)) refused)
