-- A root of unity w modulo m, of order 2 ^ suc t in the strong sense that w ^ (2 ^ t) is −1, and what its powers add up to.
-- The proofs go by halving, so m need not be prime.
use Rattle.std.specs.Prelude.{◌≡◌, refl, ◌≢◌, ℕ, zero, suc, ◌+◌, ◌-◌, ◌*◌, ◌/◌, ◌%◌, ◌^◌, ◌<◌}
use Rattle.std.proofs.Common.{sym, ap, ◌∙◌, mul_comm, arith, pow-add}
use Rattle.std.proofs.Math.Nat.{two-pow-succ}
use Rattle.std.proofs.Math.Decide.{ℕ_discrete, dec_lt}
use Rattle.algebra.specs.Sum.{sum}
use Rattle.algebra.specs.SumLaws.{naturals, sum_cong, sum_mul, sum_split, sum_const}
use Rattle.algebra.specs.PowerLaws.{pow_mul, mul_pow, one_pow, pow_one}
use Rattle.algebra.specs.Congruence.{Cong}
use Rattle.algebra.specs.CongruenceLaws.{c_refl, c_sym, ◌⨟◌, c_via, c_add, c_mul, c_pow, c_sum}

-- w is a root of length 2 ^ suc t, v its inverse and s the inverse of the length
pub record Root (m w v s t : ℕ) : Type 0 where
  pub half_period : Cong m (w ^ (2 ^ t) + 1) 0
  pub inverse : Cong m (w * v) 1
  pub length : Cong m (2 ^ suc t * s) 1

-- ---- powers of −1

pub minus_square : {m : ℕ} (a : ℕ) → Cong m (a + 1) 0 → Cong m (a * a) 1
minus_square a h =
    c_via (omega arith) (c_add (c_refl {a = a * a}) (c_sym h)) refl
    ⨟ c_via (omega arith) (c_add (c_mul (c_refl {a = a}) h) (c_refl {a = 1})) (omega arith)

pub minus_even : {m : ℕ} (a e : ℕ) → Cong m (a + 1) 0 → Cong m (a ^ (2 * e)) 1
minus_even a e h =
    let square : a ^ 2 ≡ a * a = pow-add a 1 1 ∙ rw (pow_one a) in
    c_via (pow_mul a 2 e ∙ ap (λ (x : ℕ). x ^ e) square) (c_pow e (minus_square a h)) (one_pow e)

pub minus_odd : {m : ℕ} (a e : ℕ) → Cong m (a + 1) 0 → Cong m (a ^ (2 * e + 1) + 1) 0
minus_odd a e h =
    c_via (ap (λ (x : ℕ). x + 1) (pow-add a (2 * e) 1 ∙ ap (λ (x : ℕ). a ^ (2 * e) * x) (pow_one a)))
    (c_add (c_mul (minus_even a e h) (c_refl {a = a})) (c_refl {a = 1})) (omega arith)
    ⨟ h

-- ---- sums of powers

-- a geometric sum of an even number of terms
geometric_double : (h w d : ℕ) → sum (h + h) (λ k. w ^ (d * k)) ≡ (1 + w ^ (d * h)) * sum h (λ k. w ^ (d * k))
geometric_double h w d =
    let f : ℕ → ℕ = λ k. w ^ (d * k) in
    let e : sum h (λ i. w ^ (d * (h + i))) ≡ w ^ (d * h) * sum h f =
    sum_cong naturals h _ (λ i. w ^ (d * h) * w ^ (d * i)) (λ i l. ap (λ (x : ℕ). w ^ x) (omega arith) ∙ pow-add w (d * h) (d * i))
    ∙ sum_mul h (w ^ (d * h)) f in
    sum_split naturals h h f ∙ ap (λ (x : ℕ). sum h f + x) e ∙ omega arith

-- an odd multiple: the factor 1 + w ^ (d h) is 0
orthogonal_odd : {m : ℕ} (h w e : ℕ) → Cong m (w ^ h + 1) 0 → Cong m (sum (h + h) (λ k. w ^ ((2 * e + 1) * k))) 0
orthogonal_odd h w e p =
    let f : ℕ = sum h (λ k. w ^ ((2 * e + 1) * k)) in
    let r : w ^ ((2 * e + 1) * h) ≡ (w ^ h) ^ (2 * e + 1) = ap (λ (x : ℕ). w ^ x) (mul_comm (2 * e + 1) h) ∙ pow_mul w h (2 * e + 1) in
    c_via (geometric_double h w (2 * e + 1) ∙ ap (λ (x : ℕ). (1 + x) * f) r ∙ ap (λ (x : ℕ). x * f) (omega arith))
    (c_mul (minus_odd (w ^ h) e p) c_refl) (omega arith)

-- an even multiple: the same at the root w ^ 2 of half the length
orthogonal_even : {m : ℕ} (h w e : ℕ) → Cong m (sum h (λ k. (w ^ 2) ^ (e * k))) 0 → Cong m (sum (h + h) (λ k. w ^ (2 * e * k))) 0
orthogonal_even h w e p =
    let r : sum h (λ k. w ^ (2 * e * k)) ≡ sum h (λ k. (w ^ 2) ^ (e * k)) =
    sum_cong naturals h _ _ (λ k l. ap (λ (x : ℕ). w ^ x) (omega arith) ∙ pow_mul w 2 (e * k)) in
    c_via (geometric_double h w (2 * e) ∙ ap (λ (x : ℕ). (1 + w ^ (2 * e * h)) * x) r) (c_mul c_refl p) (omega arith)

pub orthogonal : {m : ℕ} (t w d : ℕ) → Cong m (w ^ (2 ^ t) + 1) 0 → 0 < d → d < 2 ^ suc t → Cong m (sum (2 ^ suc t) (λ k. w ^ (d * k))) 0
orthogonal zero w d p l u =
    let e : d ≡ 1 = omega arith in
    rw e (orthogonal_odd 1 w 0 p)
orthogonal {m} (suc t) w d p l u = go (ℕ_discrete (d % 2) 0) (orthogonal t (w ^ 2) (d / 2))
  where
    go : Dec (d % 2 ≡ 0)
        → (Cong m ((w ^ 2) ^ (2 ^ t) + 1) 0 → 0 < d / 2 → d / 2 < 2 ^ suc t → Cong m (sum (2 ^ suc t) (λ k. (w ^ 2) ^ (d / 2 * k))) 0)
        → Cong m (sum (2 ^ suc (suc t)) (λ k. w ^ (d * k))) 0
    go (yes z) r =
        let e : d ≡ 2 * (d / 2) = omega arith in
        let q : (w ^ 2) ^ (2 ^ t) ≡ w ^ (2 ^ suc t) = sym (pow_mul w 2 (2 ^ t)) ∙ ap (λ (x : ℕ). w ^ x) (omega arith) in
        let a : Cong m ((w ^ 2) ^ (2 ^ t) + 1) 0 = c_via (ap (λ (x : ℕ). x + 1) q) p refl in
        rw (two-pow-succ (suc t), e) (orthogonal_even (2 ^ suc t) w (d / 2) (r a (omega arith) (omega arith)))
    go (no z) r =
        let e : d ≡ 2 * (d / 2) + 1 = omega arith in
        rw (two-pow-succ (suc t), e) (orthogonal_odd (2 ^ suc t) w (d / 2) p)

-- ---- a root and its inverse

-- w to the power of the length is 1
pub root_period : {m : ℕ} (t w : ℕ) → Cong m (w ^ (2 ^ t) + 1) 0 → Cong m (w ^ (2 ^ suc t)) 1
root_period t w p = c_via (ap (λ (x : ℕ). w ^ x) (two-pow-succ t) ∙ pow-add w (2 ^ t) (2 ^ t)) (minus_square (w ^ (2 ^ t)) p) refl

pub inverse_pow : {m : ℕ} (w v k : ℕ) → Cong m (w * v) 1 → Cong m (w ^ k * v ^ k) 1
inverse_pow w v k p = c_via (sym (mul_pow w v k)) (c_pow k p) (one_pow k)

-- the inverse of a root is a root
pub root_inverse : {m w v s t : ℕ} → Root m w v s t → Root m v w s t
root_inverse {m} {w} {v} {s} {t} r =
    let h : ℕ = 2 ^ t in
    let a : Cong m (v ^ h + w ^ h * v ^ h) (v ^ h + 1) = c_add c_refl (inverse_pow w v h r.inverse) in
    let b : Cong m (v ^ h * (w ^ h + 1)) (v ^ h * 0) = c_mul c_refl r.half_period in
    record { half_period = c_sym a ⨟ c_via (omega arith) b (omega arith); inverse = c_via (mul_comm v w) r.inverse refl; length = r.length }

module _ {m w v s t : ℕ} (r : Root m w v s t) where
  -- sums over k of w ^ (i k) v ^ (j k), where j is below i
  orthogonal_above : (i j : ℕ) → i < 2 ^ suc t → j < i → Cong m (sum (2 ^ suc t) (λ k. w ^ (i * k) * v ^ (j * k))) 0
  orthogonal_above i j l g = c_sum (λ k _. apart k) ⨟ orthogonal t w (i - j) r.half_period (omega arith) (omega arith)
    where
      exact : (i j : ℕ) → j < i → i ≡ (i - j) + j
      exact i j g = omega arith

      apart : (k : ℕ) → Cong m (w ^ (i * k) * v ^ (j * k)) (w ^ ((i - j) * k))
      apart k =
          let e : w ^ (i * k) ≡ w ^ ((i - j) * k) * w ^ (j * k) =
          ap (λ (x : ℕ). w ^ x) (ap (λ (x : ℕ). x * k) (exact i j g) ∙ omega arith) ∙ pow-add w ((i - j) * k) (j * k) in
          c_via (ap (λ (x : ℕ). x * v ^ (j * k)) e ∙ omega arith)
          (c_mul (c_refl {a = w ^ ((i - j) * k)}) (inverse_pow w v (j * k) r.inverse)) (omega arith)

  pub orthogonal_same : (i : ℕ) → Cong m (sum (2 ^ suc t) (λ k. w ^ (i * k) * v ^ (i * k))) (2 ^ suc t)
  orthogonal_same i = c_via refl (c_sum (λ k _. inverse_pow w v (i * k) r.inverse)) (sum_const (2 ^ suc t) 1 ∙ omega arith)

pub orthogonal_other : {m w v s t : ℕ} → Root m w v s t → (i j : ℕ) → i < 2 ^ suc t → j < 2 ^ suc t → i ≢ j
    → Cong m (sum (2 ^ suc t) (λ k. w ^ (i * k) * v ^ (j * k))) 0
orthogonal_other {m} {w} {v} {s} {t} r i j l l' d = go (dec_lt j i)
  where
    go : Dec (j < i) → Cong m (sum (2 ^ suc t) (λ k. w ^ (i * k) * v ^ (j * k))) 0
    go (yes g) = orthogonal_above r i j l g
    go (no g) =
        c_via (sum_cong naturals (2 ^ suc t) _ _ (λ k _. mul_comm (w ^ (i * k)) (v ^ (j * k))))
        (orthogonal_above (root_inverse r) j i l' (omega arith)) refl
