-- A transform of length a b from transforms of lengths a and b, and a transform at a power of the root, which has the frequencies in another order.
-- They rest on the laws of sums, powers and congruence.
use Rattle.std.specs.Prelude.{◌≡◌, refl, ℕ, ◌+◌, ◌*◌, ◌/◌, ◌%◌, ◌^◌}
use Rattle.std.proofs.Common.{sym, ap, ap₂, ◌∙◌, mul_comm, div-add-mod', arith, pow-add}
use Rattle.algebra.specs.Sum.{sum}
use Rattle.algebra.specs.SumLaws.{naturals, sum_cong, sum_swap, sum_flat, sum_mul_right}
use Rattle.algebra.specs.PowerLaws.{pow_mul, one_pow}
use Rattle.algebra.specs.Congruence.{Cong}
use Rattle.algebra.specs.CongruenceLaws.{c_refl, c_sym, ◌⨟◌, c_via, c_mul, c_pow, c_sum}
use Rattle.fermat.specs.Transform.{power_sum}

-- ---- length a b

-- place i b + j, frequency k + a l
pub product_length : {m : ℕ} (a b w : ℕ) → Cong m (w ^ (a * b)) 1 → (x : ℕ → ℕ) (k l : ℕ)
    → Cong m (power_sum (a * b) w x (k + a * l)) (power_sum b (w ^ a) (λ j. w ^ (j * k) * power_sum a (w ^ b) (λ i. x (i * b + j)) k) l)
unfolding power_sum
product_length {m} a b w one x k l =
    c_via
    (sym (sum_flat naturals a b (λ n. x n * w ^ (n * (k + a * l))))
    ∙ sum_swap naturals a b (λ i j. x (i * b + j) * w ^ ((i * b + j) * (k + a * l))))
    (c_sum (λ j _. c_sum (λ i _. term i j)))
    (sum_cong naturals b _ _ (λ j _. column j))
  where
    exponent : (i j : ℕ) → (i * b + j) * (k + a * l) ≡ a * b * (i * l) + (b * (i * k) + (j * k + a * (j * l)))
    exponent i j = omega arith

    term : (i j : ℕ)
        → Cong m (x (i * b + j) * w ^ ((i * b + j) * (k + a * l))) (x (i * b + j) * (w ^ b) ^ (i * k) * (w ^ (j * k) * (w ^ a) ^ (j * l)))
    term i j =
        let power : w ^ ((i * b + j) * (k + a * l)) ≡ (w ^ (a * b)) ^ (i * l) * ((w ^ b) ^ (i * k) * (w ^ (j * k) * (w ^ a) ^ (j * l))) =
        ap (λ (e : ℕ). w ^ e) (exponent i j) ∙ pow-add w (a * b * (i * l)) (b * (i * k) + (j * k + a * (j * l)))
        ∙ ap₂ ◌*◌ (pow_mul w (a * b) (i * l))
        (pow-add w (b * (i * k)) (j * k + a * (j * l)) ∙ ap₂ ◌*◌ (pow_mul w b (i * k))
        (pow-add w (j * k) (a * (j * l)) ∙ ap (λ (e : ℕ). w ^ (j * k) * e) (pow_mul w a (j * l)))) in
        let unit : Cong m ((w ^ (a * b)) ^ (i * l)) 1 = c_via refl (c_pow (i * l) one) (one_pow (i * l)) in
        c_via (ap (λ (e : ℕ). x (i * b + j) * e) power) (c_mul (c_refl {a = x (i * b + j)}) (c_mul unit c_refl)) (omega arith)

    column : (j : ℕ) → sum a (λ i. x (i * b + j) * (w ^ b) ^ (i * k) * (w ^ (j * k) * (w ^ a) ^ (j * l)))
        ≡ w ^ (j * k) * sum a (λ i. x (i * b + j) * (w ^ b) ^ (i * k)) * (w ^ a) ^ (j * l)
    column j =
        sum_mul_right a (w ^ (j * k) * (w ^ a) ^ (j * l)) (λ i. x (i * b + j) * (w ^ b) ^ (i * k))
        ∙ regroup (sum a (λ i. x (i * b + j) * (w ^ b) ^ (i * k))) (w ^ (j * k)) ((w ^ a) ^ (j * l))
      where
        regroup : (s p q : ℕ) → s * (p * q) ≡ p * s * q
        regroup s p q = omega arith

-- ---- a transform at the power s of a root r of length n: the frequency k is s k modulo n

-- an exponent modulo the length
pub power_modulo : {m : ℕ} (n r e : ℕ) → Cong m (r ^ n) 1 → Cong m (r ^ (e % n)) (r ^ e)
power_modulo {m} n r e one =
    let parts : e ≡ n * (e / n) + e % n = sym (div-add-mod' e n) ∙ ap (λ (i : ℕ). i + e % n) (mul_comm (e / n) n) in
    let power : r ^ e ≡ (r ^ n) ^ (e / n) * r ^ (e % n) =
    ap (λ (i : ℕ). r ^ i) parts ∙ pow-add r (n * (e / n)) (e % n) ∙ ap (λ (i : ℕ). i * r ^ (e % n)) (pow_mul r n (e / n)) in
    c_via (omega arith) (c_mul (c_sym (c_via refl (c_pow (e / n) one) (one_pow (e / n)))) (c_refl {a = r ^ (e % n)})) (sym power)

-- a power of r to the power s
pub power_rest : {m : ℕ} (n r s k i : ℕ) → Cong m (r ^ n) 1 → Cong m ((r ^ s) ^ (i * k)) (r ^ (i * (s * k % n)))
power_rest {m} n r s k i one =
    let e : s * (i * k) ≡ i * (s * k) = regroup s i k in
    let power : (r ^ s) ^ (i * k) ≡ (r ^ (s * k)) ^ i = sym (pow_mul r s (i * k)) ∙ ap (λ (z : ℕ). r ^ z) (e ∙ mul_comm i (s * k)) ∙ pow_mul r (s * k) i in
    c_via power (c_pow i (c_sym (power_modulo n r (s * k) one)))
    (sym (pow_mul r (s * k % n) i) ∙ ap (λ (z : ℕ). r ^ z) (mul_comm (s * k % n) i))
  where
    regroup : (s i k : ℕ) → s * (i * k) ≡ i * (s * k)
    regroup s i k = omega arith

pub other_root : {m : ℕ} (n r s u : ℕ) → Cong m (r ^ n) 1 → Cong m u (r ^ s) → (x : ℕ → ℕ) (k : ℕ)
    → Cong m (power_sum n u x k) (power_sum n r x (s * k % n))
unfolding power_sum
other_root n r s u one is x k = c_sum (λ i _. c_mul c_refl (c_pow (i * k) is ⨟ power_rest n r s k i one))
