-- From place K − 1 on, a circular sum is the plain sum over the first K weights, where all others are 0: before place K − 1 an index turns
-- round, from there on none does. In one direction and over a tile. It rests on the laws of sums.
use Rattle.std.specs.Prelude.{◌≡◌, ◌⊎◌}
use Rattle.std.proofs.Math.Path.{ap}
use Rattle.std.proofs.Common.{◌∙◌, inl, inr, mod-eq_of_lt, arith}
use Prim.Native.Nat.{ℕ, ◌+◌, ◌*◌, ◌-◌, ◌%◌, ◌<◌, ◌≤◌}
use Rattle.std.proofs.Math.Nat.{add-mod_right}
use Rattle.algebra.specs.Sum.{sum}
use Rattle.algebra.specs.SumLaws.{naturals, sum_cong, sum_zero, sum_short}
use Rattle.fermat.specs.Transform.{circular, circular2}

module _ (N K : ℕ) (short : K ≤ N) where
  -- an index that does not turn round
  straight : (j b : ℕ) → K - 1 ≤ j → j < N → b < K → (j + N - b) % N ≡ j - b
  straight j b low high l =
      let once : j + N - b ≡ j - b + N = omega arith in
      ap (λ n. n % N) once ∙ add-mod_right (j - b) N ∙ mod-eq_of_lt (omega arith)

  pub folding : (weight window : ℕ → ℕ) → ((b : ℕ) → K ≤ b → weight b ≡ 0) → (j : ℕ) → K - 1 ≤ j → j < N
      → circular N weight window j ≡ sum K (λ b. weight b * window (j - b))
  unfolding circular
  folding weight window empty j low high =
      sum_short naturals K N _ short (λ b h _. ap (λ w. w * window ((j + N - b) % N)) (empty b h) ∙ omega arith)
      ∙ sum_cong naturals K _ _ (λ b l. ap (λ v. weight b * window v) (straight j b low high l))

  pub folding2 : (weight window : ℕ → ℕ → ℕ) → ((a b : ℕ) → (K ≤ a) ⊎ (K ≤ b) → weight a b ≡ 0)
      → (i j : ℕ) → K - 1 ≤ i → i < N → K - 1 ≤ j → j < N
      → circular2 N weight window i j ≡ sum K (λ a. sum K (λ b. weight a b * window (i - a) (j - b)))
  unfolding circular circular2
  folding2 weight window empty i j row_low row_high column_low column_high =
      sum_short naturals K N (λ a. row a ((i + N - a) % N)) short (λ a h _. sum_zero naturals N _ (λ b _. none a b h))
      ∙ sum_cong naturals K _ _ (λ a l. ap (row a) (straight i a row_low row_high l)
      ∙ folding (weight a) (window (i - a)) (λ b h. empty a b (inr h)) j column_low column_high)
    where
      -- row a of the weights with row u of the window
      row : (a u : ℕ) → ℕ
      row a u = circular N (weight a) (window u) j

      none : (a b : ℕ) → K ≤ a → weight a b * window ((i + N - a) % N) ((j + N - b) % N) ≡ 0
      none a b h = ap (λ w. w * window ((i + N - a) % N) ((j + N - b) % N)) (empty a b (inl h)) ∙ omega arith
