-- The total of terms that grows by one term in each turn. Sizes are far below what 64 bits hold. It rests on the law of the last summand.
use Rattle.std.specs.Prelude.{◌≡◌, ℕ, suc, ◌+◌, ◌*◌, ◌^◌, ◌<◌, ◌≤◌, ℤ, pos, negsuc, nat_abs, ◌+ℤ◌}
use Rattle.std.proofs.Common.{sym, ap₂, ◌∙◌, arith, w64, SFits}
use Rattle.algebra.specs.Sum.{sum_z}
use Rattle.algebra.specs.SumLaws.{integers, sum_zero, sum_short, sum_z_last}
use Rattle.algebra.specs.SizeLaws.{size_add}
use Rattle.joined.specs.Terms.{Gives, TotalOf}

-- sizes up to 2^62
pub fits-small : (z : ℤ) → nat_abs z ≤ 2 ^ 62 → SFits w64 z
fits-small (pos n) l = record { sfits = omega arith }
fits-small (negsuc n) l = record { sfits = omega arith }

module _ {gives : ℕ → ℤ → Type 0} {from : ℕ} where
  -- 0 is the total of no terms
  pub total_none : TotalOf gives from from (pos 0)
  total_none = record { is = λ term same none. sym (sum_zero integers from term none); small = λ most few. omega arith }

  -- one term more
  module _ {to : ℕ} {total : ℤ} (t : TotalOf gives from to total) (low : from ≤ to) (value : ℤ) (given : gives to value) where
    more_small : (most : ℕ) → Gives gives from (to + 1) (λ j v. nat_abs v ≤ most) → nat_abs (total +ℤ value) ≤ (to + 1) * most
    more_small most few =
        omega (arith, size_add total value, t.small most (λ j v a b g. few j v a (omega arith) g), few to value low (omega arith) given)

    pub total_more : TotalOf gives from (to + 1) (total +ℤ value)
    total_more = record {
      is = λ term same none.
          ap₂ ◌+ℤ◌ (t.is term (λ j v a b g. same j v a (omega arith) g) none) (same to value low (omega arith) given) ∙ longer term;
      small = more_small;
    }
      where
        longer : (term : ℕ → ℤ) → sum_z to term +ℤ term to ≡ sum_z (to + 1) term
        longer term = let e : to + 1 ≡ suc to = omega arith in rw e (sym (sum_z_last to term))

    -- it fits a word, where no more than 64 terms have so small sizes
    pub total_fits : {end : ℕ} → to < end → end ≤ 64 → Gives gives from end (λ j v. nat_abs v ≤ 121 * 2 ^ 30) → SFits w64 (total +ℤ value)
    total_fits {end} below few small =
        fits-small _ (omega (arith, more_small (121 * 2 ^ 30) (λ j v a b g. small j v a (omega arith) g)))

-- where the other terms up to n are 0, it is the sum of n terms
pub total_all : {j : ℕ} (n : ℕ) (term : ℕ → ℤ) → j ≤ n → ((i : ℕ) → j ≤ i → i < n → term i ≡ pos 0) → sum_z n term ≡ sum_z j term
total_all {j} n term l none = sum_short integers j n term l none
