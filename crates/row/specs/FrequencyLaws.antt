-- The frequencies of a transform of 16 words at the 11th power of a root, in which the 256-point transform has them: a sum over them in either
-- order. It rests on the transform at a power of the root.
use Rattle.std.specs.Prelude.{◌≡◌, refl, ℕ, ◌*◌, ◌%◌, ◌^◌}
use Rattle.std.proofs.Common.{ap, mul_comm, arith}
use Rattle.algebra.specs.Sum.{sum}
use Rattle.algebra.specs.Congruence.{Cong}
use Rattle.algebra.specs.CongruenceLaws.{c_refl, ◌⨟◌, c_via, c_mul, c_pow, c_sum}
use Rattle.fermat.specs.Transform.{power_sum}
use Rattle.fermat.specs.LengthLaws.{power_rest}

-- each frequency below 16 is 11 times one of them
eleven : (f : ℕ → ℕ) → sum 16 (λ k. f (11 * k % 16)) ≡ sum 16 f
unfolding sum
eleven f = omega arith

-- a sum over the frequencies in that order, at the 11th power of the root
pub other_order : {m : ℕ} (r u : ℕ) → Cong m (r ^ 16) 1 → Cong m u (r ^ 11) → (z : ℕ → ℕ) (n : ℕ)
    → Cong m (power_sum 16 u (λ i. z (11 * i % 16)) n) (power_sum 16 r z n)
unfolding power_sum
other_order {m} r u one is z n =
    c_via refl (c_sum (λ i _. c_mul c_refl (term i))) (eleven (λ l. z l * r ^ (l * n)))
  where
    term : (i : ℕ) → Cong m (u ^ (i * n)) (r ^ (11 * i % 16 * n))
    term i =
        c_pow (i * n) is
        ⨟ c_via (ap (λ (e : ℕ). (r ^ 11) ^ e) (mul_comm i n)) (power_rest 16 r 11 i n one) (ap (λ (e : ℕ). r ^ e) (mul_comm n (11 * i % 16)))
