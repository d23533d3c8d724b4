-- Sums of integers over three indices: factors before them, and two of them that change places. They rest on the
-- laws of single sums.
use Rattle.std.specs.Prelude.{◌≡◌, ℕ, ◌<◌, ℤ, ◌*ℤ◌}
use Rattle.std.proofs.Common.{◌∙◌}
use Rattle.algebra.specs.Sum.{sum_z}
use Rattle.algebra.specs.SumLaws.{integers, sum_cong, sum_swap}
use Rattle.algebra.specs.Integer.{sum_z_mul, sum_z_mul_right}

abbrev pub sum3 : (A B D : ℕ) → (ℕ → ℕ → ℕ → ℤ) → ℤ
sum3 A B D f = sum_z A (λ a. sum_z B (λ b. sum_z D (λ d. f a b d)))

pub sum3_cong : (A B D : ℕ) (f g : ℕ → ℕ → ℕ → ℤ) → ((a b d : ℕ) → a < A → b < B → d < D → f a b d ≡ g a b d) → sum3 A B D f ≡ sum3 A B D g
sum3_cong A B D f g h =
    sum_cong integers A _ _ (λ a i. sum_cong integers B _ _ (λ b j. sum_cong integers D _ _ (λ d k. h a b d i j k)))

pub sum3_mul : (A B D : ℕ) (z : ℤ) (f : ℕ → ℕ → ℕ → ℤ) → sum3 A B D (λ a b d. z *ℤ f a b d) ≡ z *ℤ sum3 A B D f
sum3_mul A B D z f = simp sum_z_mul

pub sum3_mul_right : (A B D : ℕ) (f : ℕ → ℕ → ℕ → ℤ) (z : ℤ) → sum3 A B D (λ a b d. f a b d *ℤ z) ≡ sum3 A B D f *ℤ z
sum3_mul_right A B D f z = simp sum_z_mul_right

-- a sum goes inside three
sum3_out : (n A B D : ℕ) (f : ℕ → ℕ → ℕ → ℕ → ℤ) → sum_z n (λ i. sum3 A B D (f i)) ≡ sum3 A B D (λ a b d. sum_z n (λ i. f i a b d))
sum3_out n A B D f =
    sum_swap integers n A (λ i a. sum_z B (λ b. sum_z D (λ d. f i a b d)))
    ∙ sum_cong integers A _ _ (λ a k. sum_swap integers n B (λ i b. sum_z D (λ d. f i a b d))
    ∙ sum_cong integers B _ _ (λ b l. sum_swap integers n D (λ i d. f i a b d)))

pub sum3_swap : (A B D I E F : ℕ) (f : ℕ → ℕ → ℕ → ℕ → ℕ → ℕ → ℤ)
    → sum3 A B D (λ a b d. sum3 I E F (λ i e h. f a b d i e h)) ≡ sum3 I E F (λ i e h. sum3 A B D (λ a b d. f a b d i e h))
sum3_swap A B D I E F f =
    sum_cong integers A _ _ (λ a k. two a) ∙ sum3_out A I E F (λ a i e h. sum_z B (λ b. sum_z D (λ d. f a b d i e h)))
  where
    two : (a : ℕ) → sum_z B (λ b. sum_z D (λ d. sum3 I E F (f a b d))) ≡ sum3 I E F (λ i e h. sum_z B (λ b. sum_z D (λ d. f a b d i e h)))
    two a =
        sum_cong integers B _ _ (λ b l. sum3_out D I E F (f a b)) ∙ sum3_out B I E F (λ b i e h. sum_z D (λ d. f a b d i e h))
