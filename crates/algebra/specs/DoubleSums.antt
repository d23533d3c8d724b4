-- Sums of integers over two indices: factors before them, and two such sums that change places. They rest on the laws of single sums.
use Rattle.std.specs.Prelude.{◌≡◌, ℕ, ◌<◌, ℤ, ◌*ℤ◌}
use Rattle.std.proofs.Common.{◌∙◌}
use Rattle.algebra.specs.Sum.{sum_z}
use Rattle.algebra.specs.SumLaws.{integers, sum_cong, sum_swap}
use Rattle.algebra.specs.Integer.{sum_z_mul, sum_z_mul_right}

abbrev pub sum2 : (A B : ℕ) → (ℕ → ℕ → ℤ) → ℤ
sum2 A B f = sum_z A (λ a. sum_z B (λ b. f a b))

pub sum2_cong : (A B : ℕ) (f g : ℕ → ℕ → ℤ) → ((a b : ℕ) → a < A → b < B → f a b ≡ g a b) → sum2 A B f ≡ sum2 A B g
sum2_cong A B f g h = sum_cong integers A _ _ (λ a i. sum_cong integers B _ _ (λ b j. h a b i j))

pub sum2_mul : (A B : ℕ) (z : ℤ) (f : ℕ → ℕ → ℤ) → sum2 A B (λ a b. z *ℤ f a b) ≡ z *ℤ sum2 A B f
sum2_mul A B z f = simp sum_z_mul

pub sum2_mul_right : (A B : ℕ) (f : ℕ → ℕ → ℤ) (z : ℤ) → sum2 A B (λ a b. f a b *ℤ z) ≡ sum2 A B f *ℤ z
sum2_mul_right A B f z = simp sum_z_mul_right

-- a sum goes inside two
pub sum2-inside : (n A B : ℕ) (f : ℕ → ℕ → ℕ → ℤ) → sum_z n (λ i. sum2 A B (f i)) ≡ sum2 A B (λ a b. sum_z n (λ i. f i a b))
sum2-inside n A B f =
    sum_swap integers n A (λ i a. sum_z B (f i a)) ∙ sum_cong integers A _ _ (λ a k. sum_swap integers n B (λ i b. f i a b))

pub sum2_swap : (A B D E : ℕ) (f : ℕ → ℕ → ℕ → ℕ → ℤ)
    → sum2 A B (λ a b. sum2 D E (λ d e. f a b d e)) ≡ sum2 D E (λ d e. sum2 A B (λ a b. f a b d e))
sum2_swap A B D E f =
    sum_cong integers A _ _ (λ a k. sum2-inside B D E (f a)) ∙ sum2-inside A D E (λ a d e. sum_z B (λ b. f a b d e))
