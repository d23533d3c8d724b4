-- The code 0 says that the field is 4 or 5, that there are N words and that each is below the field, and these say that the code is 0;
-- what stands in the buffer after accepted and after refused words. It rests on the laws of rules.
use Rattle.std.specs.Prelude.{◌≡◌, refl, true, List, [], ◌∷◌, ℕ, zero, suc, ◌<◌, ltb, length, get_or}
use Rattle.std.proofs.Common.{arith}
use borrow.Author.Tests.{ltb-true, lt-ltb, eqb-true, eq-eqb}
use Rattle.algebra.specs.EveryLaws.{both_true}
use Rattle.base.specs.RulesLaws.{none_broken, all_hold, inside_low, inside_high, inside_from, outcome_made, outcome_lent}
use Rattle.fermat.specs.Field.{modulus, transform_length}
use Rattle.transform.specs.Answer.{all_below, transform_rules, transform_code, Accepted, Operation, row, answered}

-- ---- every word is below m

pub each_below : (m : ℕ) (words : List ℕ) → all_below m words ≡ true → (i : ℕ) → i < length words → get_or words i 0 < m
each_below m [] e i l = absurd (omega arith)
each_below m (word ∷ words) e zero l = ltb-true word m (both_true (ltb word m) (all_below m words) e).0
each_below m (word ∷ words) e (suc i) l = each_below m words (both_true (ltb word m) (all_below m words) e).1 i (omega arith)

pub below_all : (m : ℕ) (words : List ℕ) → ((i : ℕ) → i < length words → get_or words i 0 < m) → all_below m words ≡ true
below_all m [] h = refl
below_all m (word ∷ words) h = rw (lt-ltb word m (h 0 (omega arith))) (below_all m words (λ i l. h (suc i) (omega arith)))

-- ---- the code 0

module _ (field : ℕ) (words : List ℕ) where
  pub accepted : transform_code field words ≡ 0 → Accepted field words
  unfolding transform_code
  accepted e =
      let h = none_broken (transform_rules field words) tt e in
      record {
        field_low = inside_low 4 5 field h.0;
        field_high = inside_high 4 5 field h.0;
        same_length = eqb-true (length words) (transform_length field) h.1.0;
        below = each_below (modulus field) words h.1.1.0;
      }

  pub code_accepted : Accepted field words → transform_code field words ≡ 0
  unfolding transform_code
  code_accepted a =
      all_hold (transform_rules field words) (
        inside_from 4 5 field a.field_low a.field_high,
        (eq-eqb (length words) (transform_length field) a.same_length, (below_all (modulus field) words a.below, tt)),
      )

  -- ---- what stands in the buffer in the end

  pub answered-accepted : (operation : Operation) → transform_code field words ≡ 0 → answered operation field words ≡ row operation field words
  unfolding answered
  answered-accepted operation e = outcome_made (row operation field words) words e

  pub answered-refused : (operation : Operation) → (transform_code field words ≡ 0 → ⊥) → answered operation field words ≡ words
  unfolding answered
  answered-refused operation n = outcome_lent (row operation field words) words (transform_code field words) n
