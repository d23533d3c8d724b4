-- Laws of the groups of weights by the remainders of row and column: the greatest group is at least each group and at most all weights; by 1 there
-- is one group, of all weights; the weights that a transposed output meets are of one group. They rest on the laws of sums and of greatest numbers.
use Rattle.std.specs.Prelude.{◌≡◌, true, List, ℕ, ◌+◌, ◌*◌, ◌-◌, ◌/◌, ◌%◌, ◌<◌, ◌≤◌, T, eqb, ℤ}
use Rattle.std.proofs.Common.{sym, ◌∙◌, div-add-mod', arith, eq-eqb}
use Rattle.std.proofs.Math.Path.{ap}
use Rattle.std.proofs.Math.Bool.{cond}
use Rattle.std.proofs.Math.Nat.{le_trans, mod-one, add-mul-mod_self_right}
use Rattle.algebra.specs.Greatest.{greatest}
use Rattle.algebra.specs.GreatestLaws.{greatest_one, greatest_at, greatest_most}
use Rattle.algebra.specs.SumLaws.{naturals, sum_cong, sum_le}
use Rattle.layer.specs.Windows.{spread}
use Rattle.layer.specs.PlannedLaws.{cond_le}
use Rattle.layer.specs.declared.shape.Layer.{Layer}
use Rattle.layer.specs.WindowLaws.{spread_is}
use Rattle.load.specs.Load.{size_total, in_group, group_total, greatest_group}

-- u − a is a multiple of S, so that both leave the same remainder
pub spread_group : (S a n u : ℕ) → T (spread S a n u) → eqb (a % S) (u % S) ≡ true
spread_group S a n u t =
    let (low, none, _) = spread_is S a n u t in
    let whole : u ≡ a + (u - a) / S * S = omega (arith, div-add-mod' (u - a) S) in
    eq-eqb (a % S) (u % S) (sym (ap (λ (k : ℕ). k % S) whole ∙ add-mul-mod_self_right a ((u - a) / S) S))

module _ (l : Layer) (kernel : List ℤ) (m : ℕ) where
  -- a group has no more than all weights
  group_most : (S p q : ℕ) → group_total l kernel m S p q ≤ size_total l kernel m
  unfolding group_total size_total
  group_most S p q =
      sum_le l.inputs _ _ (λ c _. sum_le l.side _ _ (λ a _. sum_le l.side _ _ (λ b _. cond_le (in_group S p q a b) (omega arith) (omega arith))))

  pub greatest_group_most : greatest_group l kernel m ≤ size_total l kernel m
  unfolding greatest_group
  greatest_group_most = greatest_most l.stride _ _ (λ p _. greatest_most l.stride _ _ (λ q _. group_most l.stride p q))

  -- no group has more than the greatest
  pub greatest_group_at : (p q : ℕ) → p < l.stride → q < l.stride → group_total l kernel m l.stride p q ≤ greatest_group l kernel m
  unfolding greatest_group
  greatest_group_at p q hp hq =
      le_trans
      (greatest_at l.stride (group_total l kernel m l.stride p) q hq)
      (greatest_at l.stride (λ p. greatest l.stride (group_total l kernel m l.stride p)) p hp)

  -- the one group by 1 has all weights
  pub whole_group : group_total l kernel m 1 0 0 ≡ size_total l kernel m
  unfolding group_total size_total
  whole_group =
      sum_cong naturals l.inputs _ _ (λ c _. sum_cong naturals l.side _ _ (λ a _. sum_cong naturals l.side _ _ (λ b _. in_whole a b _)))
    where
      in_whole : (a b n : ℕ) → cond (in_group 1 0 0 a b) n 0 ≡ n
      in_whole a b n = rw (mod-one a, mod-one b)

  pub one_stride_group : l.stride ≡ 1 → greatest_group l kernel m ≡ size_total l kernel m
  unfolding greatest_group
  one_stride_group e =
      ap (λ (S : ℕ). greatest S (λ p. greatest S (λ q. group_total l kernel m S p q))) e
      ∙ greatest_one _ ∙ greatest_one _ ∙ whole_group
