-- Laws of the transform: it respects congruence, sums and factors, and each of the transform and its inverse undoes the other.
-- The laws on sums that are not reduced are congruences; those on residues are equations.
use Rattle.std.specs.Prelude.{◌≡◌, refl}
use Rattle.std.proofs.Common.{sym, ap, ◌∙◌, mul_comm, add-mul, zero-mul, arith}
use Prim.Native.Nat.{ℕ, suc, ◌+◌, ◌*◌, ◌^◌, ◌<◌}
use Rattle.std.proofs.Math.Nat.{mod-eq_of_lt}
use Rattle.algebra.specs.Sum.{sum}
use Rattle.algebra.specs.SumLaws.{naturals, sum_cong, sum_zero, sum_add, sum_mul, sum_mul_right, sum_swap}
use Rattle.algebra.specs.Congruence.{Cong}
use Rattle.algebra.specs.CongruenceLaws.{c_refl, ◌⨟◌, c_via, c_mul, c_sum, c_mod, c_single}
use Rattle.fermat.specs.Transform.{power_sum, power_sum2, transform_at, inverse_at}
use Rattle.fermat.specs.RootLaws.{Root, root_inverse, orthogonal_other, orthogonal_same}

pub c_power_sum : {m : ℕ} (n w : ℕ) (x y : ℕ → ℕ) (k : ℕ) → ((i : ℕ) → i < n → Cong m (x i) (y i))
    → Cong m (power_sum n w x k) (power_sum n w y k)
unfolding power_sum
c_power_sum n w x y k h = c_sum (λ i l. c_mul (h i l) c_refl)

pub c_power_sum2 : {m : ℕ} (n w : ℕ) (x y : ℕ → ℕ → ℕ) (k l : ℕ) → ((i j : ℕ) → i < n → j < n → Cong m (x i j) (y i j))
    → Cong m (power_sum2 n w x k l) (power_sum2 n w y k l)
unfolding power_sum2
c_power_sum2 n w x y k l h = c_power_sum n w _ _ k (λ i p. c_power_sum n w _ _ l (λ j q. h i j p q))

pub power_sum_scale : (n w c : ℕ) (x : ℕ → ℕ) (k : ℕ) → power_sum n w (λ j. c * x j) k ≡ c * power_sum n w x k
unfolding power_sum
power_sum_scale n w c x k = sum_cong naturals n _ _ (λ j l. omega arith) ∙ sum_mul n c (λ j. x j * w ^ (j * k))

pub power_sum_add : (n w : ℕ) (x y : ℕ → ℕ) (k : ℕ) → power_sum n w (λ j. x j + y j) k ≡ power_sum n w x k + power_sum n w y k
unfolding power_sum
power_sum_add n w x y k =
    sum_cong naturals n _ _ (λ j l. add-mul (x j) (y j) (w ^ (j * k))) ∙ sum_add naturals n (λ j. x j * w ^ (j * k)) (λ j. y j * w ^ (j * k))

pub power_sum2_add : (n w : ℕ) (x y : ℕ → ℕ → ℕ) (k l : ℕ)
    → power_sum2 n w (λ i j. x i j + y i j) k l ≡ power_sum2 n w x k l + power_sum2 n w y k l
unfolding power_sum2 power_sum
power_sum2_add n w x y k l =
    sum_cong naturals n _ _ (λ i p. ap (λ (z : ℕ). z * w ^ (i * k)) (power_sum_add n w (x i) (y i) l))
    ∙ power_sum_add n w (λ i. power_sum n w (x i) l) (λ i. power_sum n w (y i) l) k

pub power_sum_zero : (n w : ℕ) (x : ℕ → ℕ) (k : ℕ) → ((i : ℕ) → x i ≡ 0) → power_sum n w x k ≡ 0
unfolding power_sum
power_sum_zero n w x k none = sum_zero naturals n _ (λ i _. ap (λ (z : ℕ). z * w ^ (i * k)) (none i) ∙ zero-mul (w ^ (i * k)))

pub power_sum2_zero : (n w k l : ℕ) → power_sum2 n w (λ i j. 0) k l ≡ 0
unfolding power_sum2
power_sum2_zero n w k l = power_sum_zero n w _ k (λ i. power_sum_zero n w (λ j. 0) l (λ j. refl))

pub power_sum_sum : (n w a : ℕ) (x : ℕ → ℕ → ℕ) (k : ℕ) → power_sum n w (λ j. sum a (λ i. x i j)) k ≡ sum a (λ i. power_sum n w (x i) k)
unfolding power_sum
power_sum_sum n w a x k =
    sum_cong naturals n _ _ (λ j l. sym (sum_mul_right a (w ^ (j * k)) (λ i. x i j)))
    ∙ sum_swap naturals n a (λ j i. x i j * w ^ (j * k))

-- sums over two indices change places
pub power_sum_swap : (n w v : ℕ) (x : ℕ → ℕ → ℕ) (k j : ℕ)
    → power_sum n v (λ l. power_sum n w (λ i. x i l) k) j ≡ power_sum n w (λ i. power_sum n v (x i) j) k
unfolding power_sum
power_sum_swap n w v x k j =
    power_sum_sum n v n (λ i l. x i l * w ^ (i * k)) j
    ∙ sum_cong naturals n _ _ (λ i _. sum_cong naturals n _ _ (λ l _. omega arith) ∙ sum_mul_right n (w ^ (i * k)) (λ l. x i l * v ^ (l * j)))

-- the sum at v of the sums at w is the length times the argument
pub power_sum_twice : {m w v s t : ℕ} → Root m w v s t → (x : ℕ → ℕ) (j : ℕ) → j < 2 ^ suc t
    → Cong m (power_sum (2 ^ suc t) v (power_sum (2 ^ suc t) w x) j) (2 ^ suc t * x j)
unfolding power_sum
power_sum_twice {m} {w} {v} {s} {t} r x j l =
    c_via regrouped (c_single n j (λ i. x i * kernel i) l (λ i p d. c_via refl (c_mul c_refl (orthogonal_other r i j p l d)) (omega arith))) refl
    ⨟ c_via refl (c_mul (c_refl {a = x j}) (orthogonal_same r j)) (mul_comm (x j) n)
  where
    n : ℕ
    n = 2 ^ suc t

    kernel : ℕ → ℕ
    kernel i = sum n (λ k. w ^ (i * k) * v ^ (j * k))

    inner : (k : ℕ) → sum n (λ i. x i * w ^ (i * k)) * v ^ (k * j) ≡ sum n (λ i. x i * (w ^ (i * k) * v ^ (j * k)))
    inner k =
        ap (λ (z : ℕ). sum n (λ i. x i * w ^ (i * k)) * v ^ z) (mul_comm k j)
        ∙ sym (sum_mul_right n (v ^ (j * k)) (λ i. x i * w ^ (i * k))) ∙ sum_cong naturals n _ _ (λ i _. omega arith)

    regrouped : sum n (λ k. sum n (λ i. x i * w ^ (i * k)) * v ^ (k * j)) ≡ sum n (λ i. x i * kernel i)
    regrouped =
        sum_cong naturals n _ _ (λ k _. inner k) ∙ sum_swap naturals n n (λ k i. x i * (w ^ (i * k) * v ^ (j * k)))
        ∙ sum_cong naturals n _ _ (λ i _. sum_mul n (x i) (λ k. w ^ (i * k) * v ^ (j * k)))

module _ {m w v s t : ℕ} (r : Root m w v s t) where
  pub c_undo : (x : ℕ → ℕ) (j : ℕ) → j < 2 ^ suc t → Cong m (s * power_sum (2 ^ suc t) v (power_sum (2 ^ suc t) w x) j) (x j)
  c_undo x j l =
      c_mul (c_refl {a = s}) (power_sum_twice r x j l)
      ⨟ c_via (omega arith) (c_mul r.length (c_refl {a = x j})) (omega arith)

  -- the inverse undoes the transform
  pub undo : (x : ℕ → ℕ) (j : ℕ) → j < 2 ^ suc t → x j < m → inverse_at m (2 ^ suc t) v s (transform_at m (2 ^ suc t) w x) j ≡ x j
  unfolding transform_at inverse_at
  undo x j l b = (c_mul (c_refl {a = s}) (c_power_sum (2 ^ suc t) v _ _ j (λ i _. c_mod)) ⨟ c_undo x j l).same ∙ mod-eq_of_lt b

-- the transform undoes the inverse
pub redo : {m w v s t : ℕ} → Root m w v s t → (x : ℕ → ℕ) (k : ℕ) → k < 2 ^ suc t → x k < m
    → transform_at m (2 ^ suc t) w (inverse_at m (2 ^ suc t) v s x) k ≡ x k
unfolding transform_at inverse_at
redo {m} {w} {v} {s} {t} r x k l b =
    (c_power_sum (2 ^ suc t) w _ (λ j. s * power_sum (2 ^ suc t) v x j) k (λ i _. c_mod)
    ⨟ c_via (power_sum_scale (2 ^ suc t) w s (power_sum (2 ^ suc t) v x) k) (c_undo (root_inverse r) x k l) refl).same ∙ mod-eq_of_lt b
