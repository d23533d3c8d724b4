-- What the answer 0 says of a layer and its kernel; that a call which breaks no earlier rule is answered 29 exactly where there is no window to show;
-- and the theorem of an accepted call. It rests on the laws of lists of rules and of the worst map.
use Rattle.std.specs.Prelude.{◌≡◌, Bool, true, ◌&&◌, cond, List, [], ◌∷◌, ◌++◌, ◌↔◌, ℕ, ◌≤◌, ℤ, length}
use Rattle.std.proofs.Common.{sym, ap, ◌∙◌, arith, eqb-true, eq-eqb}
use Rattle.algebra.specs.EveryLaws.{both_true, test_fails}
use Rattle.base.specs.Rules.{first_broken, rules_before}
use Rattle.base.specs.RulesLaws.{none_broken, both_accept, second_answers, inside_high, outcome_made}
use Rattle.layer.specs.declared.shape.Layer.{Layer}
use Rattle.layer.specs.Shape.{is_conv, map_count, kernel_count}
use Rattle.load.proofs.LoadLaws.{weighted}
use Rattle.checks.specs.EngineLaws.{tile_lawful}
use Rattle.checks.specs.Checks.{shape_rules, output_rules, plan_code}
use Rattle.checks.specs.ChecksLaws.{planned}
use Rattle.worst.specs.Window.{has_whole, whole_row, whole_column, Windowed}
use Rattle.worst.specs.WindowLaws.{first_window, whole_has}
use Rattle.worst.specs.Worst.{worst_map}
use Rattle.worst.specs.Answer.{window_rule, length_rules, shown_rules, worst_rules, worst_code, worst_left}
use Rattle.worst.specs.Accepted.{Accepted}
use Rattle.worst.specs.Reached.{Reached}
use Rattle.worst.specs.ReachedLaws.{reached}

-- rule 29 in the request's words
pub windowed : (l : Layer) → (is_conv l && has_whole l ≡ true) ↔ Windowed l
windowed l = (to, from)
  where
    to : is_conv l && has_whole l ≡ true → Windowed l
    to e =
        let (kind, has) = both_true (is_conv l) (has_whole l) e in
        record { conv_kind = eqb-true _ _ kind; row = whole_row l; column = whole_column l; whole = first_window l has }

    from : Windowed l → is_conv l && has_whole l ≡ true
    from w = rw (eq-eqb l.kind 0 w.conv_kind, whole_has l w.whole)

-- where no earlier rule is broken, 29 is answered exactly where the layer is TCONV or no cropped output's whole window lies inside the map
pub none_windowed : (l : Layer) (kernel : List ℤ) (room : ℕ) → first_broken (rules_before 29 (worst_rules l kernel room)) ≡ 0
    → (worst_code l kernel room ≡ 29) ↔ (Windowed l → ⊥)
unfolding worst_code
none_windowed l kernel room passed = (to, from)
  where
    decided : worst_code l kernel room ≡ cond (is_conv l && has_whole l) 0 29
    decided = second_answers (rules_before 29 (worst_rules l kernel room)) (window_rule l ∷ []) tt passed

    to : worst_code l kernel room ≡ 29 → Windowed l → ⊥
    to e w = omega (arith, sym e ∙ decided ∙ ap (λ (t : Bool). cond t 0 29) ((windowed l).1 w))

    from : (Windowed l → ⊥) → worst_code l kernel room ≡ 29
    from none = decided ∙ ap (λ (t : Bool). cond t 0 29) (test_fails (is_conv l && has_whole l) (λ e. none ((windowed l).0 e)))

-- what the rules give
pub accepted : (l : Layer) (kernel : List ℤ) (room : ℕ) → worst_code l kernel room ≡ 0 → Accepted l kernel × (room ≡ map_count l)
unfolding plan_code worst_code
accepted l kernel room e =
    let rules = length_rules l kernel room ++ shown_rules l kernel in
    let (plan, rest) = both_accept (shape_rules 5 l ++ output_rules l) rules tt e in
    let hold = none_broken rules tt rest in
    let p = planned tile_lawful l plan in
    let peak : l.peak ≤ 32767 = inside_high 1 32767 l.peak search in
    let weights : length kernel ≡ kernel_count l = eqb-true (length kernel) (kernel_count l) search in
    let (kind, has) = both_true (is_conv l) (has_whole l) search in (
      record { plan = p; weights = weighted l kernel p.shape peak weights; conv_kind = eqb-true _ _ kind; whole = has },
      eqb-true room (map_count l) search,
    )

-- The theorem of a call: what an accepted call leaves in `map` is within the peak, and makes the output of the first channel with the greatest load,
-- at the first whole window of the crop, equal that load.
pub worst_accepted : (l : Layer) (kernel map : List ℤ) → worst_code l kernel (length map) ≡ 0 → Reached l kernel (worst_left l kernel map)
worst_accepted l kernel map e =
    let s = (accepted l kernel (length map) e).0 in
    let written : worst_left l kernel map ≡ worst_map l kernel = outcome_made _ _ e in
    rw written (reached l s.plan.shape kernel s.conv_kind s.whole)
