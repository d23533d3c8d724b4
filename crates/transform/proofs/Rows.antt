-- The steps of `transform` and of `inverse` on a row of N words, put together. They rest on the laws of bit-reversed order and on the
-- transform respecting congruence.
use mathlib.Core.Path.{◌≡◌, sym, ap, ◌∙◌}
use mathlib.Core.List.{List}
use Prim.Native.Nat.{ℕ, ◌+◌, ◌*◌, ◌%◌, ◌<◌}
use native.Mathlib.Nat.{one-mul}
use native.Mathlib.Omega.{arith}
use lib.ListN.{length, get_or}
use lib.Pow.{pow_pos}
use Rattle.algebra.specs.PlacesLaws.{table_of}
use Rattle.algebra.specs.CongruenceLaws.{c_eq, c_refl, ◌⨟◌, c_mul}
use Rattle.fermat.specs.Field.{modulus, transform_length, inverse_of_two, scale}
use Rattle.fermat.specs.Transform.{transform_at, inverse_at, transform_in, inverse_in}
use Rattle.fermat.specs.TransformLaws.{c_power_sum}
use Rattle.passes.specs.Order.{reversed, Permuted}
use Rattle.passes.specs.OrderLaws.{permuted_most, reversed_lt, reversed-reversed}
use Rattle.passes.specs.Butterfly.{AtMost}
use Rattle.passes.specs.Halving.{word, Forward, Inverse, Filled}
use Rattle.transform.specs.Answer.{Accepted, row}

-- the one lane of a row
lane : (xs : List ℕ) (i : ℕ) → word 1 i 0 xs ≡ get_or xs i 0
lane xs i = ap (λ (p : ℕ). get_or xs p 0) (omega arith)

-- what the transforms in passes ask of accepted words
module _ {t : ℕ} {xs : List ℕ} (a : Accepted t xs) where
  pub row_most : AtMost (2 * modulus t) xs
  row_most i l = omega (arith, a.below i l)

  pub ordered_most : (ys : List ℕ) → length ys ≡ transform_length t → Permuted (reversed (t + 1)) xs ys → AtMost (2 * modulus t) ys
  ordered_most ys size ordered =
      permuted_most (reversed (t + 1)) xs ys (2 * modulus t) a.same_length size (reversed_lt (t + 1)) ordered row_most

  pub row_filled : Filled (length xs) 1 xs
  row_filled = record { some = omega (arith, a.same_length, pow_pos (t + 1)); empty = λ i h l. absurd (omega arith) }

module _ (t : ℕ) (xs ys zs us : List ℕ) (size-y : length ys ≡ transform_length t) (size-z : length zs ≡ transform_length t) (size-u : length us ≡ transform_length t) where
  -- in passes, then in order, then reduced
  pub forward_row : Forward (modulus t) 2 (t + 1) 1 xs ys → Permuted (reversed (t + 1)) ys zs
      → ((i : ℕ) → i < length zs → get_or us i 0 ≡ (1 * get_or zs i 0) % modulus t) → us ≡ row transform_in t xs
  unfolding row transform_at
  forward_row forward ordered reduced =
      table_of 0 (transform_length t) _ us size-u (λ k l.
      reduced k (omega arith) ∙ ap (λ (x : ℕ). x % modulus t) (one-mul (get_or zs k 0) ∙ ordered k (omega arith) ∙ sym (lane ys (reversed (t + 1) k)))
      ∙ (forward k 0 l (omega arith) ⨟ c_power_sum (transform_length t) 2 _ (λ i. get_or xs i 0) k (λ i _. c_eq (lane xs i))).same)

  -- in bit-reversed order, then in passes, then scaled
  pub inverse_row : length xs ≡ transform_length t → Permuted (reversed (t + 1)) xs ys → Inverse (modulus t) (inverse_of_two t) (t + 1) 1 ys zs
      → ((i : ℕ) → i < length zs → get_or us i 0 ≡ (scale t * get_or zs i 0) % modulus t) → us ≡ row inverse_in t xs
  unfolding row inverse_at
  inverse_row size-x ordered inverse scaled =
      table_of 0 (transform_length t) _ us size-u (λ k l.
      scaled k (omega arith) ∙ ap (λ (x : ℕ). (scale t * x) % modulus t) (sym (lane zs k))
      ∙ (c_mul (c_refl {a = scale t})
      (inverse k 0 l (omega arith) ⨟ c_power_sum (transform_length t) (inverse_of_two t) _ (λ i. get_or xs i 0) k (λ i h. c_eq (back i h)))).same)
    where
      back : (i : ℕ) → i < transform_length t → word 1 (reversed (t + 1) i) 0 ys ≡ get_or xs i 0
      back i h =
          lane ys (reversed (t + 1) i) ∙ ordered (reversed (t + 1) i) (omega (arith, reversed_lt (t + 1) i h))
          ∙ ap (λ (p : ℕ). get_or xs p 0) (reversed-reversed (t + 1) i h)
