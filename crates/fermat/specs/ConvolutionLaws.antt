-- The transform takes a circular convolution to a product, in one direction and over a tile.
use Rattle.std.specs.Prelude.{◌≡◌}
use Rattle.std.proofs.Math.Path.{refl, ap}
use Rattle.std.proofs.Common.{sym, ◌∙◌, mod-eq_of_lt, arith, pow-add}
use Prim.Native.Nat.{ℕ, suc, ◌+◌, ◌-◌, ◌*◌, ◌%◌, ◌^◌, ◌<◌}
use Rattle.std.proofs.Math.Nat.{add-mod_right}
use Rattle.algebra.specs.SumLaws.{naturals, sum_cong, sum_mul, sum_mul_right, sum_shift}
use Rattle.algebra.specs.PowerLaws.{pow_mul, one_pow}
use Rattle.algebra.specs.Congruence.{Cong}
use Rattle.algebra.specs.CongruenceLaws.{c_eq, c_refl, c_sym, ◌⨟◌, c_via, c_mul, c_pow, c_sum, c_mod}
use Rattle.fermat.specs.Transform.{power_sum, power_sum2, transform_at, inverse_at, transform2_at, inverse2_at, circular, circular2}
use Rattle.fermat.specs.RootLaws.{Root, root_period}
use Rattle.fermat.specs.TransformLaws.{c_power_sum, c_power_sum2, power_sum_sum, power_sum_scale, power_sum_swap, power_sum_twice, c_undo}

-- a power may be taken a whole period further
pub pow_period : {m : ℕ} (n w j k : ℕ) → Cong m (w ^ n) 1 → Cong m (w ^ ((j + n) * k)) (w ^ (j * k))
pow_period n w j k p =
    c_via (ap (λ (x : ℕ). w ^ x) (omega arith) ∙ pow-add w (j * k) (n * k) ∙ ap (λ (x : ℕ). w ^ (j * k) * x) (pow_mul w n k))
    (c_mul (c_refl {a = w ^ (j * k)}) (c_pow k p)) (ap (λ (x : ℕ). w ^ (j * k) * x) (one_pow k) ∙ omega arith)

module _ {m : ℕ} (n w : ℕ) (one : Cong m (w ^ n) 1) where
  -- the sum of a function moved round by i places
  power_sum_moved : (y : ℕ → ℕ) (k i : ℕ) → i < n → Cong m (power_sum n w (λ j. y ((j + n - i) % n)) k) (w ^ (i * k) * power_sum n w y k)
  unfolding power_sum
  power_sum_moved y k i l =
      c_sum (λ j _. here j)
      ⨟ c_via (sum_mul n (w ^ (i * k)) (λ j. term (j + (n - i))) ∙ ap (λ (z : ℕ). w ^ (i * k) * z) (sum_shift naturals n (n - i) term period))
      (c_mul c_refl (c_sum there)) refl
    where
      term : ℕ → ℕ
      term j = (y (j % n) * w ^ (j * k)) % m

      period : (j : ℕ) → term (j + n) ≡ term j
      period j =
          (c_via (ap (λ (z : ℕ). y z * w ^ ((j + n) * k)) (add-mod_right j n)) (c_mul (c_refl {a = y (j % n)}) (pow_period n w j k one)) refl).same

      exact : (j i : ℕ) → i < n → i + (j + (n - i)) ≡ j + n
      exact j i l = omega arith

      here : (j : ℕ) → Cong m (y ((j + n - i) % n) * w ^ (j * k)) (w ^ (i * k) * term (j + (n - i)))
      here j =
          let q : ℕ = (j + (n - i)) % n in
          let e : j + n - i ≡ j + (n - i) = omega arith in
          let s : w ^ (i * k) * w ^ ((j + (n - i)) * k) ≡ w ^ ((j + n) * k) =
          sym (pow-add w (i * k) ((j + (n - i)) * k)) ∙ ap (λ (z : ℕ). w ^ z) (sym (omega arith) ∙ ap (λ (z : ℕ). z * k) (exact j i l)) in
          let f : w ^ (i * k) * (y q * w ^ ((j + (n - i)) * k)) ≡ y q * w ^ ((j + n) * k) = omega arith ∙ ap (λ (z : ℕ). y q * z) s in
          c_sym (c_mul c_refl c_mod ⨟ c_via f (c_mul c_refl (pow_period n w j k one)) (ap (λ (z : ℕ). y (z % n) * w ^ (j * k)) (sym e)))

      there : (j : ℕ) → j < n → Cong m (term j) (y j * w ^ (j * k))
      there j q = c_mod ⨟ c_eq (ap (λ (z : ℕ). y z * w ^ (j * k)) (mod-eq_of_lt q))

  pub circular_power_sum : (x y : ℕ → ℕ) (k : ℕ) → Cong m (power_sum n w (circular n x y) k) (power_sum n w x k * power_sum n w y k)
  unfolding circular power_sum
  circular_power_sum x y k =
      c_via
      (power_sum_sum n w n (λ i j. x i * y ((j + n - i) % n)) k
      ∙ sum_cong naturals n _ _ (λ i _. power_sum_scale n w (x i) (λ j. y ((j + n - i) % n)) k))
      (c_sum (λ i l. c_mul (c_refl {a = x i}) (power_sum_moved y k i l)))
      (sum_cong naturals n _ _ (λ i _. omega arith) ∙ sum_mul_right n (power_sum n w y k) (λ i. x i * w ^ (i * k)))

  pub circular2_power_sum : (x y : ℕ → ℕ → ℕ) (k l : ℕ)
      → Cong m (power_sum2 n w (circular2 n x y) k l) (power_sum2 n w x k l * power_sum2 n w y k l)
  unfolding power_sum2 circular2 circular
  circular2_power_sum x y k l = c_power_sum n w _ _ k (λ i _. row i) ⨟ circular_power_sum rows_x rows_y k
    where
      rows_x : ℕ → ℕ
      rows_x i = power_sum n w (x i) l

      rows_y : ℕ → ℕ
      rows_y i = power_sum n w (y i) l

      row : (i : ℕ) → Cong m (power_sum n w (circular2 n x y i) l) (circular n rows_x rows_y i)
      row i =
          c_via (power_sum_sum n w n (λ s j. circular n (x s) (y ((i + n - s) % n)) j) l)
          (c_sum (λ s _. circular_power_sum (x s) (y ((i + n - s) % n)) l)) refl

module _ {m w v s t : ℕ} (r : Root m w v s t) where
  -- 01: the theorem of circular convolution
  pub convolution : (x y : ℕ → ℕ) (j : ℕ) → j < 2 ^ suc t
      → inverse_at m (2 ^ suc t) v s (λ k. (transform_at m (2 ^ suc t) w x k * transform_at m (2 ^ suc t) w y k) % m) j ≡ circular (2 ^ suc t) x y j % m
  unfolding transform_at inverse_at
  convolution x y j l = (c_mul (c_refl {a = s}) (c_power_sum n v _ _ j (λ k _. product k)) ⨟ c_undo r (circular n x y) j l).same
    where
      n : ℕ
      n = 2 ^ suc t

      product : (k : ℕ) → Cong m ((power_sum n w x k % m * (power_sum n w y k % m)) % m) (power_sum n w (circular n x y) k)
      product k = c_mod ⨟ c_mul c_mod c_mod ⨟ c_sym (circular_power_sum n w (root_period t w r.half_period) x y k)

  -- ---- over a tile

  pub power_sum2_twice : (x : ℕ → ℕ → ℕ) (i j : ℕ) → i < 2 ^ suc t → j < 2 ^ suc t
      → Cong m (power_sum2 (2 ^ suc t) v (power_sum2 (2 ^ suc t) w x) i j) (2 ^ suc t * (2 ^ suc t * x i j))
  unfolding power_sum2
  power_sum2_twice x i j li lj =
      c_power_sum n v _ (power_sum n w (λ p. n * x p j)) i (λ k _. row k) ⨟ power_sum_twice r (λ p. n * x p j) i li
    where
      n : ℕ
      n = 2 ^ suc t

      row : (k : ℕ) → Cong m (power_sum n v (λ l. power_sum n w (λ p. power_sum n w (x p) l) k) j) (power_sum n w (λ p. n * x p j) k)
      row k =
          c_via (power_sum_swap n w v (λ p. power_sum n w (x p)) k j)
          (c_power_sum n w _ (λ p. n * x p j) k (λ p _. power_sum_twice r (x p) j lj)) refl

  pub c_undo2 : (x : ℕ → ℕ → ℕ) (i j : ℕ) → i < 2 ^ suc t → j < 2 ^ suc t
      → Cong m (s * s * power_sum2 (2 ^ suc t) v (power_sum2 (2 ^ suc t) w x) i j) (x i j)
  c_undo2 x i j li lj =
      c_mul (c_refl {a = s * s}) (power_sum2_twice x i j li lj)
      ⨟ c_via (omega arith) (c_mul (c_mul r.length r.length) (c_refl {a = x i j})) (omega arith)

  -- the inverse undoes the transform
  pub undo2 : (x : ℕ → ℕ → ℕ) (i j : ℕ) → i < 2 ^ suc t → j < 2 ^ suc t
      → inverse2_at m (2 ^ suc t) v s (transform2_at m (2 ^ suc t) w x) i j ≡ x i j % m
  unfolding transform2_at inverse2_at
  undo2 x i j li lj = (c_mul (c_refl {a = s * s}) (c_power_sum2 (2 ^ suc t) v _ _ i j (λ k l _ _. c_mod)) ⨟ c_undo2 x i j li lj).same

  pub convolution2 : (x y : ℕ → ℕ → ℕ) (i j : ℕ) → i < 2 ^ suc t → j < 2 ^ suc t
      → inverse2_at m (2 ^ suc t) v s (λ k l. (transform2_at m (2 ^ suc t) w x k l * transform2_at m (2 ^ suc t) w y k l) % m) i j
      ≡ circular2 (2 ^ suc t) x y i j % m
  unfolding transform2_at inverse2_at
  convolution2 x y i j li lj =
      (c_mul (c_refl {a = s * s}) (c_power_sum2 n v _ _ i j (λ k l _ _. product k l)) ⨟ c_undo2 (circular2 n x y) i j li lj).same
    where
      n : ℕ
      n = 2 ^ suc t

      product : (k l : ℕ) → Cong m ((power_sum2 n w x k l % m * (power_sum2 n w y k l % m)) % m) (power_sum2 n w (circular2 n x y) k l)
      product k l = c_mod ⨟ c_mul c_mod c_mod ⨟ c_sym (circular2_power_sum n w (root_period t w r.half_period) x y k l)
