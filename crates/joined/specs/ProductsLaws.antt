-- The sum of a plane, as the code makes it, is that of the definition.
use Rattle.std.specs.Prelude.{◌≡◌, List, ℕ, ◌+◌, ◌*◌, ◌-◌, ℤ, pos, ◌*ℤ◌, get_or}
use Rattle.std.proofs.Common.{sym, ap, ◌∙◌, arith}
use Rattle.algebra.specs.Planes.{cell}
use Rattle.algebra.specs.Sum.{sum_z}
use Rattle.algebra.specs.SumLaws.{integers, sum_cong}
use Rattle.layer.specs.Direct.{when, within, shifted}
use Rattle.layer.specs.WindowLaws.{mul_when, sum-when}
use Rattle.joined.specs.Products.{plane_of, product_at, row_sum, row_at, plane_sum}

pub plane_is : (K L : ℕ) (first second : List ℤ) (k l a b : ℕ) → plane_sum first (plane_of K k) second (plane_of L l) a b
    ≡ sum_z K (λ i. sum_z K (λ j. cell K K first k i j *ℤ shifted L L second l i a j b))
unfolding plane_sum row_at row_sum product_at
plane_is K L first second k l a b =
    sum_cong integers K _ _ (λ i _.
    ap (when (within i L a)) (sum_cong integers K _ _ (λ j _. same i j))
    ∙ sym (sum-when K (within i L a) _)
    ∙ sum_cong integers K _ _ (λ j _. sym (mul_when (within i L a) (cell K K first k i j) _)))
  where
    same : (i j : ℕ)
        → get_or first (k * (K * K) + i * K + j) (pos 0) *ℤ when (within j L b) (get_or second (l * (L * L) + (a - i) * L + (b - j)) (pos 0))
        ≡ cell K K first k i j *ℤ when (within j L b) (cell L L second l (a - i) (b - j))
    same i j =
        let one : k * (K * K) + i * K + j ≡ (k * K + i) * K + j = omega arith in
        let other : l * (L * L) + (a - i) * L + (b - j) ≡ (l * L + (a - i)) * L + (b - j) = omega arith in
        rw (one, other)
