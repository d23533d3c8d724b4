-- A transform of length 2 h from two of length h, in both ways: the forward transform splits the frequencies into even and odd
-- ones, the inverse joins the sums over the even and the odd places.
use Rattle.std.specs.Prelude.{◌≡◌}
use Rattle.std.proofs.Math.Path.{refl, ap}
use Rattle.std.proofs.Common.{sym, ap₂, ◌∙◌, mul_comm, arith}
use Prim.Native.Nat.{ℕ, ◌+◌, ◌*◌, ◌^◌, ◌<◌}
use Rattle.std.proofs.Math.Pow.{pow-add}
use Rattle.algebra.specs.Sum.{sum}
use Rattle.algebra.specs.SumLaws.{naturals, sum_cong, sum_add, sum_mul, sum_split, sum_even_odd}
use Rattle.algebra.specs.PowerLaws.{pow_mul}
use Rattle.algebra.specs.Congruence.{Cong}
use Rattle.algebra.specs.CongruenceLaws.{c_refl, c_sym, ◌⨟◌, c_via, c_add, c_mul, c_sum}
use Rattle.fermat.specs.Transform.{power_sum}
use Rattle.fermat.specs.RootLaws.{minus_even, minus_odd}
use Rattle.fermat.specs.ConvolutionLaws.{pow_period}

-- ---- by places

-- over the even places, and over the odd ones
unfoldable pub evens : (h w : ℕ) → (ℕ → ℕ) → ℕ → ℕ
evens h w x k = power_sum h (w ^ 2) (λ j. x (2 * j)) k

unfoldable pub odds : (h w : ℕ) → (ℕ → ℕ) → ℕ → ℕ
odds h w x k = power_sum h (w ^ 2) (λ j. x (2 * j + 1)) k

-- the lower half
pub halve_low : (h w : ℕ) (x : ℕ → ℕ) (k : ℕ) → power_sum (2 * h) w x k ≡ evens h w x k + w ^ k * odds h w x k
unfolding power_sum evens odds
halve_low h w x k =
    sum_even_odd naturals h (λ j. x j * w ^ (j * k))
    ∙ ap₂ ◌+◌
    (sum_cong naturals h _ _ (λ j _. ap (λ (z : ℕ). x (2 * j) * z) (square j)))
    (sum_cong naturals h _ (λ j. w ^ k * (x (2 * j + 1) * (w ^ 2) ^ (j * k))) (λ j _. ap (λ (z : ℕ). x (2 * j + 1) * z) (next j) ∙ omega arith)
    ∙ sum_mul h (w ^ k) (λ j. x (2 * j + 1) * (w ^ 2) ^ (j * k)))
  where
    square : (j : ℕ) → w ^ (2 * j * k) ≡ (w ^ 2) ^ (j * k)
    square j = ap (λ (z : ℕ). w ^ z) (omega arith) ∙ pow_mul w 2 (j * k)

    next : (j : ℕ) → w ^ ((2 * j + 1) * k) ≡ w ^ k * (w ^ 2) ^ (j * k)
    next j = ap (λ (z : ℕ). w ^ z) (omega arith) ∙ pow-add w k (2 * j * k) ∙ ap (λ (z : ℕ). w ^ k * z) (square j)

-- a transform of length h has period h
power_sum_period : {m : ℕ} (h w : ℕ) → Cong m (w ^ h) 1 → (x : ℕ → ℕ) (k : ℕ) → Cong m (power_sum h w x (k + h)) (power_sum h w x k)
unfolding power_sum
power_sum_period h w one x k =
    c_sum (λ j _. c_mul c_refl (c_via (ap (λ (z : ℕ). w ^ z) (mul_comm j (k + h))) (pow_period h w k j one) (ap (λ (z : ℕ). w ^ z) (mul_comm k j))))

-- the upper half: adding w ^ k times the odd part gives the even part
pub halve_high : {m : ℕ} (h w : ℕ) → Cong m (w ^ h + 1) 0 → (x : ℕ → ℕ) (k : ℕ)
    → Cong m (power_sum (2 * h) w x (k + h) + w ^ k * odds h w x k) (evens h w x k)
unfolding evens odds
halve_high {m} h w minus x k =
    c_via (ap (λ (z : ℕ). z + w ^ k * odd k) (halve_low h w x (k + h)))
    (c_add (c_add (again (λ j. x (2 * j))) (c_mul c_refl (again (λ j. x (2 * j + 1))))) c_refl)
    (ap (λ (z : ℕ). even k + z * odd k + w ^ k * odd k) (pow-add w k h))
    ⨟ c_via (omega arith) (c_add (c_refl {a = even k}) (c_mul (c_refl {a = w ^ k * odd k}) minus)) (omega arith)
  where
    even : ℕ → ℕ
    even k = power_sum h (w ^ 2) (λ j. x (2 * j)) k

    odd : ℕ → ℕ
    odd k = power_sum h (w ^ 2) (λ j. x (2 * j + 1)) k

    one : Cong m ((w ^ 2) ^ h) 1
    one = c_via (sym (pow_mul w 2 h) ∙ ap (λ (z : ℕ). w ^ z) (mul_comm 2 h) ∙ pow_mul w h 2) (minus_even (w ^ h) 1 minus) refl

    again : (y : ℕ → ℕ) → Cong m (power_sum h (w ^ 2) y (k + h)) (power_sum h (w ^ 2) y k)
    again y = power_sum_period h (w ^ 2) one y k

-- ---- by frequencies

module _ {m : ℕ} (h w : ℕ) (minus : Cong m (w ^ h + 1) 0) (x : ℕ → ℕ) where
  -- the terms of the lower half at the frequency e, and of the upper half without what they all carry
  abbrev lower : ℕ → ℕ
  lower e = sum h (λ i. x i * w ^ (i * e))

  abbrev upper : ℕ → ℕ
  upper e = sum h (λ i. x (h + i) * w ^ (i * e))

  whole : (e : ℕ) → power_sum (2 * h) w x e ≡ lower e + (w ^ h) ^ e * upper e
  unfolding power_sum
  whole e =
      ap (λ (n : ℕ). sum n (λ i. x i * w ^ (i * e))) (omega arith) ∙ sum_split naturals h h (λ i. x i * w ^ (i * e))
      ∙ ap (λ (z : ℕ). lower e + z)
      (sum_cong naturals h _ (λ i. (w ^ h) ^ e * (x (h + i) * w ^ (i * e))) (λ i _. carried i)
      ∙ sum_mul h ((w ^ h) ^ e) (λ i. x (h + i) * w ^ (i * e)))
    where
      power : (i : ℕ) → w ^ ((h + i) * e) ≡ (w ^ h) ^ e * w ^ (i * e)
      power i = ap (λ (z : ℕ). w ^ z) (omega arith) ∙ pow-add w (h * e) (i * e) ∙ ap (λ (z : ℕ). z * w ^ (i * e)) (pow_mul w h e)

      carried : (i : ℕ) → x (h + i) * w ^ ((h + i) * e) ≡ (w ^ h) ^ e * (x (h + i) * w ^ (i * e))
      carried i = ap (λ (z : ℕ). x (h + i) * z) (power i) ∙ omega arith

  even_power : (i k : ℕ) → w ^ (i * (2 * k)) ≡ (w ^ 2) ^ (i * k)
  even_power i k = ap (λ (z : ℕ). w ^ z) (omega arith) ∙ pow_mul w 2 (i * k)

  odd_power : (i k : ℕ) → w ^ (i * (2 * k + 1)) ≡ w ^ i * (w ^ 2) ^ (i * k)
  odd_power i k = ap (λ (z : ℕ). w ^ z) (omega arith) ∙ pow-add w i (i * (2 * k)) ∙ ap (λ (z : ℕ). w ^ i * z) (even_power i k)

  -- the even frequencies are those of the sums of the halves
  pub by_sums : (y : ℕ → ℕ) → ((i : ℕ) → i < h → Cong m (y i) (x i + x (h + i))) → (k : ℕ)
      → Cong m (power_sum h (w ^ 2) y k) (power_sum (2 * h) w x (2 * k))
  unfolding power_sum
  by_sums y same k =
      c_sum (λ i l. c_mul (same i l) c_refl)
      ⨟ c_via parts (c_add (c_refl {a = lower (2 * k)}) (c_via (omega arith) (c_mul (c_sym (minus_even (w ^ h) k minus)) (c_refl {a = upper (2 * k)})) refl))
      (sym (whole (2 * k)))
    where
      parts : sum h (λ i. (x i + x (h + i)) * (w ^ 2) ^ (i * k)) ≡ lower (2 * k) + upper (2 * k)
      parts =
          sum_cong naturals h _ (λ i. x i * w ^ (i * (2 * k)) + x (h + i) * w ^ (i * (2 * k)))
          (λ i _. ap (λ (z : ℕ). (x i + x (h + i)) * z) (sym (even_power i k)) ∙ omega arith)
          ∙ sum_add naturals h (λ i. x i * w ^ (i * (2 * k))) (λ i. x (h + i) * w ^ (i * (2 * k)))

  -- the odd frequencies are those of the differences, each times a power of the root
  pub by_differences : (y : ℕ → ℕ) → ((i : ℕ) → i < h → Cong m (y i + x (h + i) * w ^ i) (x i * w ^ i)) → (k : ℕ)
      → Cong m (power_sum h (w ^ 2) y k) (power_sum (2 * h) w x (2 * k + 1))
  unfolding power_sum
  by_differences y same k =
      c_via (omega arith) (c_add (c_refl {a = sums}) (c_sym none)) refl
      ⨟ c_via (omega arith) (c_add both (c_refl {a = a * upper (2 * k + 1)})) (sym (whole (2 * k + 1)))
    where
      a : ℕ
      a = (w ^ h) ^ (2 * k + 1)

      sums : ℕ
      sums = sum h (λ i. y i * (w ^ 2) ^ (i * k))

      left : sum h (λ i. (y i + x (h + i) * w ^ i) * (w ^ 2) ^ (i * k)) ≡ sums + upper (2 * k + 1)
      left =
          sum_cong naturals h _ (λ i. y i * (w ^ 2) ^ (i * k) + x (h + i) * w ^ (i * (2 * k + 1)))
          (λ i _. omega arith ∙ ap (λ (z : ℕ). y i * (w ^ 2) ^ (i * k) + x (h + i) * z) (sym (odd_power i k)))
          ∙ sum_add naturals h (λ i. y i * (w ^ 2) ^ (i * k)) (λ i. x (h + i) * w ^ (i * (2 * k + 1)))

      right : sum h (λ i. x i * w ^ i * (w ^ 2) ^ (i * k)) ≡ lower (2 * k + 1)
      right = sum_cong naturals h _ _ (λ i _. omega arith ∙ ap (λ (z : ℕ). x i * z) (sym (odd_power i k)))

      both : Cong m (sums + upper (2 * k + 1)) (lower (2 * k + 1))
      both = c_via (sym left) (c_sum (λ i l. c_mul (same i l) c_refl)) right

      none : Cong m ((a + 1) * upper (2 * k + 1)) 0
      none = c_via refl (c_mul (minus_odd (w ^ h) k minus) (c_refl {a = upper (2 * k + 1)})) (omega arith)
