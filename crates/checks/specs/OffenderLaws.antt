-- What the rules 15 and 25 say, and the place and the side that stand with an answer. It rests on the laws of the first value beyond the peak.
use Rattle.std.specs.Prelude.{◌≡◌, Bool, not, ◌&&◌, List, [], ◌∷◌, ℕ, T, eqb, ℤ}
use Rattle.std.proofs.Math.Path.{refl}
use Rattle.std.proofs.Common.{sym, true≢false}
use Rattle.std.proofs.Math.Bool.{true, false}
use Rattle.std.proofs.Math.Logic.{⊎_elim}
use Rattle.std.proofs.Math.Facts.{and_yes, yes_and}
use Rattle.base.specs.Rules.{Rule, rule, first_broken}
use Rattle.base.specs.RulesLaws.{every_number}
use Rattle.layer.specs.declared.shape.Layer.{Layer}
use Rattle.load.specs.declared.offender.Offender.{Offender}
use Rattle.load.specs.Load.{within_peak}
use Rattle.load.specs.Offender.{no_offender, offender_of}
use Rattle.load.specs.OffenderLaws.{offender_none, offender_side}
use Rattle.checks.specs.Checks.{map_value_rules, is_placed, offender_with}

module _ (l : Layer) (map : List ℤ) where
  -- no value is beyond the peak where both rules hold
  pub both_within_lem : not (eqb (offender_of l map).side 1) ≡ true → not (eqb (offender_of l map).side 2) ≡ true → within_peak l.peak map ≡ true
  both_within_lem above below = by_test (within_peak l.peak map) refl
    where
      by_test : (t : Bool) → within_peak l.peak map ≡ t → t ≡ true
      by_test true e = refl
      by_test false e = absurd (⊎_elim (λ s. true≢false (sym (rw s at above))) (λ s. true≢false (sym (rw s at below))) (offender_side l map e))

  -- the answer of the two rules stands with the first value beyond the peak: it is 15 or 25, or there is none
  pub map_place : offender_with (first_broken (map_value_rules l map)) l map ≡ offender_of l map
  unfolding offender_with
  map_place = by_test (within_peak l.peak map) refl
    where
      by_test : (t : Bool) → within_peak l.peak map ≡ t → offender_with (first_broken (map_value_rules l map)) l map ≡ offender_of l map
      by_test true e = rw (offender_none l map e)
      by_test false e = ⊎_elim (λ s. rw s) (λ s. rw s) (offender_side l map e)

-- the answer 0 stands with zeros
pub accepted_place : (l : Layer) (map : List ℤ) {code : ℕ} → code ≡ 0 → offender_with code l map ≡ no_offender
unfolding offender_with
accepted_place l map e = rw e

-- and so does an answer of other rules
abbrev pub placeless : List Rule → Bool
placeless [] = true
placeless (rule number holds ∷ rules) = not (is_placed number) && placeless rules

pub placeless_every : (rules : List Rule) → T (every_number (λ n. not (is_placed n)) rules) → T (placeless rules)
placeless_every [] other = tt
placeless_every (rule number holds ∷ rules) other =
    let (first, rest) = and_yes (not (is_placed number)) (every_number (λ n. not (is_placed n)) rules) other in
    yes_and (not (is_placed number)) (placeless rules) first (placeless_every rules rest)

pub not_placed : (rules : List Rule) → T (placeless rules) → is_placed (first_broken rules) ≡ false
not_placed [] other = refl
not_placed (rule number true ∷ rules) other = not_placed rules (and_yes (not (is_placed number)) (placeless rules) other).1
not_placed (rule number false ∷ rules) other = is_false (is_placed number) (and_yes (not (is_placed number)) (placeless rules) other).0
  where
    is_false : (t : Bool) → T (not t) → t ≡ false
    is_false true other = absurd other
    is_false false other = refl

pub zeros_with : (l : Layer) (map : List ℤ) (rules : List Rule) → T (placeless rules) → {code : ℕ} {o : Offender} → code ≡ first_broken rules
    → o ≡ no_offender → o ≡ offender_with code l map
unfolding offender_with
zeros_with l map rules other e none = rw (e, not_placed rules other) none
