-- The transform pair of a row: the numbers of its transforms of 16 words, and what the steps make together. It rests on the law of a transform whose
-- length is a product, and on fermat's law that the inverse undoes the transform.
use mathlib.Core.Path.{◌≡◌, refl, sym, ap, ◌∙◌, subst}
use mathlib.Core.List.{List}
use Prim.Native.Nat.{ℕ, ◌+◌, ◌*◌, ◌/◌, ◌%◌, ◌^◌, ◌<◌, ◌≤◌}
use native.Mathlib.Nat.{mul_comm, mod-eq_of_lt}
use native.Mathlib.Omega.{arith}
use lib.ListN.{length, get_or}
use Rattle.algebra.specs.PowerLaws.{pow_mul}
use Rattle.algebra.specs.Congruence.{Cong}
use Rattle.algebra.specs.CongruenceLaws.{c_refl, c_sym, ◌⨟◌, c_via, c_add, c_mul, c_pow, c_multiple}
use Rattle.fermat.specs.LengthLaws.{product_length, other_root}
use Rattle.fermat.specs.Transform.{power_sum}
use Rattle.fermat.specs.TransformLaws.{c_power_sum, c_undo}
use Rattle.passes.specs.Order.{reversed, across, Permuted}
use Rattle.passes.specs.OrderLaws.{reversed_lt, reversed-reversed, transposed}
use Rattle.passes.specs.Butterfly.{AtMost}
use Rattle.passes.specs.Halving.{word, Forward, Inverse}
use Rattle.passes.specs.Passes.{passes, Grid}
use Rattle.passes.specs.PassLaws.{passes_power}
use Rattle.passes.specs.GridLaws.{grid}
use Rattle.fermat.specs.Field.{modulus}
use Rattle.spectrum.specs.Value.{offset_of}
use Rattle.spectrum.specs.Product.{OffsetResidue}
use Rattle.row.specs.Powers.{row_root}
use Rattle.row.proofs.RootLaws.{row_root_lem, root_one}
use Rattle.row.specs.FrequencyLaws.{other_order}
use Rattle.row.specs.Row.{frequency_of, Twisted, RowSpectrum, RowRecovered}

-- ---- numbers

-- the passes of a transform of 16 words
pub passes_16 : passes 16 ≡ 4
passes_16 = passes_power refl (omega arith)

pub column_grid : {n : ℕ} (c : ℕ) → c ≤ 262148 → n ≡ 256 → Grid n 16 16 2 16 c
column_grid c most e = grid 4 refl (omega arith) e refl (omega arith)

-- a bound on the words of each row
pub rows_most : {c : ℕ} (ys : List ℕ) → length ys ≡ 256 → ((r j : ℕ) → r < 16 → j < 16 → word 16 r j ys ≤ c) → AtMost c ys
rows_most {c} ys size most i l =
    let e : i / 16 * 16 + i % 16 ≡ i = omega arith in
    subst (λ (p : ℕ). get_or ys p 0 ≤ c) e (most (i / 16) (i % 16) (omega arith) (omega arith))

-- ---- the residues

-- a word v that the inverse leaves, as a residue: v / 256 and the offset. 65,281 is 1 / 256
abbrev pub row_residue : ℕ → ℕ
row_residue v = (65281 * v + offset_of 4) % modulus 4

-- 1 / 256 is −256, the power of 2 that `offset_residues` takes away
pub row-residue : {v z : ℕ} → OffsetResidue 16 8 v z → z ≡ row_residue v
row-residue {v} {z} f =
    let same : Cong 65537 z (65281 * v + 32768) =
    c_sym (c_multiple z v) ⨟ c_via (omega arith) (c_add f.value (c_refl {a = 65281 * v})) (omega arith) in
    sym (mod-eq_of_lt f.below) ∙ same.same

-- ---- the roots of 16 words, by computation

one_16 : Cong 65537 ((row_root ^ 16) ^ 16) 1
unfolding row_root
one_16 = record { same = refl }

-- the root 4 of the forward transforms
four_is : Cong 65537 4 ((row_root ^ 16) ^ 11)
unfolding row_root
four_is = record { same = refl }

-- the inverse of the root is its power 255
back_is : Cong 65537 (row_root ^ 255) 64375
unfolding row_root
back_is = record { same = refl }

back_one : Cong 65537 (64375 ^ (16 * 16)) 1
back_one = record { same = refl }

back_one_16 : Cong 65537 ((64375 ^ 16) ^ 16) 1
back_one_16 = record { same = refl }

-- the root of the inverse transforms
quarter_is : Cong 65537 ((2 ^ 15 + 1) ^ 2) ((64375 ^ 16) ^ 11)
quarter_is = record { same = refl }

-- ---- forward

-- a row after the transform of the columns
row_at : (xs ys : List ℕ) → Forward 65537 4 4 16 xs ys → (r j : ℕ) → r < 16 → j < 16
    → Cong 65537 (word 16 r j ys) (power_sum 16 (row_root ^ 16) (λ i. word 16 i j xs) (frequency_of r))
row_at xs ys all r j lr lj =
    c_via (ap (λ (q : ℕ). word 16 q j ys) (sym (reversed-reversed 4 r lr))) (all (reversed 4 r) j (reversed_lt 4 r lr) lj) refl
    ⨟ other_root 16 (row_root ^ 16) 11 4 one_16 four_is (λ i. word 16 i j xs) (reversed 4 r)

pub row_forward : (xs ys zs ts us : List ℕ) → length zs ≡ 256 → Forward 65537 4 4 16 xs ys → Twisted 1 16 ys zs → Permuted (across 16) zs ts
    → Forward 65537 4 4 16 ts us → RowSpectrum (λ i. get_or xs i 0) 0 us
row_forward xs ys zs ts us size columns twisted turned rows = record { entry = all }
  where
    -- the transform of column j at the frequency f
    column : ℕ → ℕ → ℕ
    column f j = power_sum 16 (row_root ^ 16) (λ i. word 16 i j xs) f

    middle : (k : ℕ) → k < 16 → (j : ℕ) → j < 16
        → Cong 65537 (word 16 j k ts) (row_root ^ (j * frequency_of k) * column (frequency_of k) j)
    middle k lk j lj =
        let f : ℕ = frequency_of k in
        let power : row_root ^ (j * (1 * f)) ≡ row_root ^ (j * f) = ap (λ (e : ℕ). row_root ^ (j * e)) (omega arith) in
        c_via (transposed zs ts turned size j k lj lk) (twisted k j lk lj).value (ap (λ (e : ℕ). word 16 k j ys * e) power)
        ⨟ c_via refl (c_mul (row_at xs ys columns k j lk lj) (c_refl {a = row_root ^ (j * f)})) (mul_comm (column f j) (row_root ^ (j * f)))

    all : (l k : ℕ) → l < 16 → k < 16
        → Cong 65537 (get_or us (0 + (l * 16 + k)) 0) (power_sum 256 row_root (λ i. get_or xs i 0) (frequency_of k + 16 * frequency_of l))
    all l k ll lk =
        let f : ℕ = frequency_of k in
        c_via (ap (λ (i : ℕ). get_or us i 0) (omega arith)) (row_at ts us rows l k ll lk) refl
        ⨟ c_power_sum 16 (row_root ^ 16) (λ j. word 16 j k ts) (λ j. row_root ^ (j * f) * column f j) (frequency_of l) (middle k lk)
        ⨟ c_sym (product_length 16 16 row_root root_one (λ i. get_or xs i 0) f (frequency_of l))

-- ---- inverse

-- a row after the inverse of the columns, where f is what stands in each row by its frequency
back_at : (xs ys : List ℕ) → Inverse 65537 ((2 ^ 15 + 1) ^ 2) 4 16 xs ys → (f : ℕ → ℕ) (j : ℕ) → j < 16
    → ((r : ℕ) → r < 16 → Cong 65537 (word 16 r j xs) (f (frequency_of r)))
    → (n : ℕ) → n < 16 → Cong 65537 (word 16 n j ys) (power_sum 16 (64375 ^ 16) f n)
back_at xs ys all f j lj is n ln =
    all n j ln lj
    ⨟ c_power_sum 16 ((2 ^ 15 + 1) ^ 2) (λ i. word 16 (reversed 4 i) j xs) (λ i. f (11 * i % 16)) n
    (λ i li. c_via refl (is (reversed 4 i) (reversed_lt 4 i li)) (ap (λ (e : ℕ). f (11 * e % 16)) (reversed-reversed 4 i li)))
    ⨟ other_order (64375 ^ 16) ((2 ^ 15 + 1) ^ 2) back_one_16 quarter_is f n

pub row_inverse : (xs ys ts zs us out : List ℕ) → length ys ≡ 256 → Inverse 65537 ((2 ^ 15 + 1) ^ 2) 4 16 xs ys → Permuted (across 16) ys ts
    → Twisted 255 16 ts zs → Inverse 65537 ((2 ^ 15 + 1) ^ 2) 4 16 zs us
    → ((i : ℕ) → i < 256 → get_or out i 0 ≡ row_residue (get_or us i 0)) → RowRecovered xs out
row_inverse xs ys ts zs us out size first turned twisted second done x spectral p lp =
    done p lp ∙ (c_add (c_mul (c_refl {a = 65281}) value ⨟ c_undo row_root_lem x p lp) (c_refl {a = 32768})).same
  where
    -- what the row holds, by the frequency
    z : ℕ → ℕ
    z = power_sum 256 row_root x

    -- the column of the first inverse
    column : (k : ℕ) → k < 16 → (n : ℕ) → n < 16 → Cong 65537 (word 16 n k ys) (power_sum 16 (64375 ^ 16) (λ l. z (l * 16 + frequency_of k)) n)
    column k lk =
        back_at xs ys first (λ l. z (l * 16 + frequency_of k)) k lk
        (λ r lr. c_via (ap (λ (i : ℕ). get_or xs i 0) (omega arith)) (spectral.entry r k lr lk) (ap z (omega arith)))

    -- the words of the second one, by the frequency of their row
    given : ℕ → ℕ → ℕ
    given n f = 64375 ^ (f * n) * power_sum 16 (64375 ^ 16) (λ l. z (l * 16 + f)) n

    power : (n f : ℕ) → Cong 65537 (row_root ^ (n * (255 * f))) (64375 ^ (f * n))
    power n f = c_via (ap (λ (e : ℕ). row_root ^ e) (regroup n f) ∙ pow_mul row_root 255 (f * n)) (c_pow (f * n) back_is) refl
      where
        regroup : (n f : ℕ) → n * (255 * f) ≡ 255 * (f * n)
        regroup n f = omega arith

    twist_at : (n : ℕ) → n < 16 → (k : ℕ) → k < 16 → Cong 65537 (word 16 k n zs) (given n (frequency_of k))
    twist_at n ln k lk =
        (twisted k n lk ln).value
        ⨟ c_via (ap (λ (e : ℕ). e * row_root ^ (n * (255 * frequency_of k))) (transposed ys ts turned size k n lk ln))
        (c_mul (column k lk n ln) (power n (frequency_of k)))
        (mul_comm (power_sum 16 (64375 ^ 16) (λ l. z (l * 16 + frequency_of k)) n) (64375 ^ (frequency_of k * n)))

    value : Cong 65537 (get_or us p 0) (power_sum 256 64375 z p)
    value =
        let a : ℕ = p / 16 in
        let n : ℕ = p % 16 in
        let e : p ≡ a * 16 + n = omega arith in
        let e' : n + 16 * a ≡ p = omega arith in
        c_via (ap (λ (i : ℕ). get_or us i 0) e)
        (back_at zs us second (given n) n (omega arith) (twist_at n (omega arith)) a (omega arith)
        ⨟ c_sym (product_length 16 16 64375 back_one z n a))
        (ap (λ (i : ℕ). power_sum 256 64375 z i) e')
