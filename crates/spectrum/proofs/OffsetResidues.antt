-- The arithmetic of `finished`, with T for 2 ^ b, N for N² and S for 2 ^ (b − r), so that T is N S. T + 1 is the modulus.
use mathlib.Core.Path.{◌≡◌, refl, sym, ap, ◌∙◌}
use Prim.Native.Nat.{ℕ, ◌+◌, ◌-◌, ◌*◌, ◌/◌, ◌%◌, ◌^◌, ◌<◌, ◌≤◌}
use native.Mathlib.Nat.{div-add-mod', mod-lt, div-eq_of_lt, div-eq_of_lt-le, mod-eq_of_lt, zero-mul, one-mul, div-le_of_le-mul, mul_comm, mul-le-mul_right, add-mul, mul_assoc, div-lt_iff_lt-mul}
use native.Mathlib.Decide.{dec_lt}
use native.Mathlib.Omega.{arith}
use native.Mathlib.Numerals.{add-one}
use lib.Pow.{pow-add, pow_mono}
use Rattle.algebra.specs.Congruence.{Cong}
use Rattle.algebra.specs.CongruenceLaws.{c_eq, c_sym, ◌⨟◌, c_via, c_add, c_mul, c_refl, c_multiple}
use Rattle.fermat.specs.Field.{modulus, transform_length, scale}
use Rattle.fermat.specs.FieldLaws.{field_root}
use Rattle.spectrum.specs.Product.{inverse_most, Reducible, OffsetResidue, offset_residue}

-- ---- the first step: v over N

module _ (T N S v : ℕ) (whole : T ≡ N * S) (some : 0 < N) (bound : v ≤ 4 * (T + 1) * N) where
  high_le : v / N ≤ 4 * (T + 1)
  high_le = div-le_of_le-mul N {m = v} {n = 4 * (T + 1)} (rw (mul_comm N (4 * (T + 1))) bound)

  low_le : v % N * S ≤ T
  low_le = rw whole (mul-le-mul_right S (less (v % N) N (mod-lt v some)))
    where
      less : (a n : ℕ) → a < n → a ≤ n
      less a n h = omega arith

  abbrev moved : ℕ
  moved = v / N + (T + 1 + T / 2) - v % N * S

  pub moved_low : v % N * S ≤ v / N + (T + 1 + T / 2)
  moved_low = omega (arith, low_le)

  pub moved_high : v / N + (T + 1 + T / 2) ≤ 6 * T + 6
  moved_high = omega (arith, high_le)

  -- y + v S is T / 2 modulo T + 1
  pub moved_value : Cong (T + 1) (moved + v * S) (T / 2)
  moved_value = c_eq (total (v / N) (v % N * S) moved (v * S) parts (omega (arith, low_le))) ⨟ c_multiple (T / 2) (v / N + 1)
    where
      parts : v * S ≡ v / N * T + v % N * S
      parts = ap (λ (k : ℕ). k * S) (sym (div-add-mod' v N)) ∙ add-mul (v / N * N) (v % N) S
          ∙ ap (λ (k : ℕ). k + v % N * S) (mul_assoc (v / N) N S ∙ ap (λ (k : ℕ). v / N * k) (sym whole))

      total : (h l y p : ℕ) → p ≡ h * T + l → y + l ≡ h + (T + 1 + T / 2) → y + p ≡ T / 2 + (h + 1) * (T + 1)
      total h l y p ep ey = omega arith

-- ---- the second step: y modulo T + 1

module _ (T y : ℕ) (large : 16 ≤ T) (bound : y ≤ 6 * T + 6) where
  quotient_le : y / T ≤ 7
  quotient_le = less (y / T) ((div-lt_iff_lt-mul {k = T} {x = y} {y = 8} (omega arith)).1 (omega arith))
    where
      less : (q : ℕ) → q < 8 → q ≤ 7
      less q h = omega arith

  rest_lt : y % T < T
  rest_lt = mod-lt y (omega arith)

  abbrev folded : ℕ
  folded = y % T + (T + 1) - y / T

  pub folded_low : y / T ≤ y % T + (T + 1)
  folded_low = omega (arith, quotient_le)

  pub folded_high : folded < 2 * (T + 1)
  folded_high = omega (arith, rest_lt)

  pub folded_value : Cong (T + 1) folded y
  folded_value = c_sym (c_multiple folded (y / T)) ⨟ c_eq (total (y / T) (y % T) folded (div-add-mod' y T) (omega (arith, quotient_le))) ⨟ c_multiple y 1
    where
      total : (h l q : ℕ) → h * T + l ≡ y → q + h ≡ l + (T + 1) → q + h * (T + 1) ≡ y + 1 * (T + 1)
      total h l q e eq = omega arith

-- ---- the last step: q less the modulus where it is not below

module _ (T q : ℕ) (large : 16 ≤ T) (bound : q < 2 * (T + 1)) where
  abbrev over : ℕ
  over = (q + (3 * T - 1)) / (4 * T)

  -- r is q less the modulus where q is not below it
  pub record Reduced (r : ℕ) : Type 0 where
    pub fits : over * (T + 1) ≤ q
    pub below : r < T + 1
    pub value : Cong (T + 1) r q

  pub reduced : Reduced (q - over * (T + 1))
  reduced = go (dec_lt q (T + 1))
    where
      go : Dec (q < T + 1) → Reduced (q - over * (T + 1))
      go (yes l) =
          let none : over ≡ 0 = div-eq_of_lt (omega arith) in
          let take : over * (T + 1) ≡ 0 = ap (λ (k : ℕ). k * (T + 1)) none ∙ zero-mul (T + 1) in
          record { fits = omega arith; below = omega arith; value = c_eq (omega arith) }
      go (no l) =
          let one : over ≡ 1 = div-eq_of_lt-le {k = 1} (4 * T) (omega arith) (omega arith) in
          let take : over * (T + 1) ≡ T + 1 = ap (λ (k : ℕ). k * (T + 1)) one ∙ one-mul (T + 1) in
          record { fits = omega arith; below = omega arith; value = c_sym (c_multiple (q - over * (T + 1)) 1) ⨟ c_eq (omega (arith, one-mul (T + 1))) }

-- ---- the fields: 1 / N² is −2 ^ (b − 2 l)

-- a root's length squared, times 2 ^ s, is −1, so 2 ^ s is minus the square of the scale
pub square_scale : {m : ℕ} (n s p : ℕ) → Cong m (n * s) 1 → Cong m (n * n * p + 1) 0 → Cong m (s * s + p) 0
square_scale {m} n s p one minus =
    -- s s + p is (n s) (n s) (s s + p), which is (s s) (n n p + n s n s)
    let squares : Cong m (n * s * (n * s)) 1 = c_mul one one in
    c_via (omega arith) (c_mul (c_sym squares) (c_refl {a = s * s + p})) refl
    ⨟ c_via (regroup n s p) (c_mul (c_refl {a = s * s}) (c_add (c_refl {a = n * n * p}) squares)) refl
    ⨟ c_via refl (c_mul (c_refl {a = s * s}) minus) (omega arith)
  where
    regroup : (n s p : ℕ) → n * s * (n * s) * (s * s + p) ≡ s * s * (n * n * p + n * s * (n * s))
    regroup n s p = omega arith

-- z + v p is h modulo m, so z is s s v + h
pub residue_value : {m : ℕ} (s p z v h : ℕ) → Cong m (s * s + p) 0 → z < m → Cong m (z + v * p) h → z ≡ (s * s * v + h) % m
residue_value {m} s p z v h square below value =
    sym (mod-eq_of_lt below)
    ∙ (c_via (omega arith) (c_add (c_refl {a = z}) (c_mul (c_refl {a = v}) (c_sym square))) refl
    ⨟ c_via (omega arith) (c_add (c_refl {a = s * s * v}) value) refl).same

module _ (t : ℕ) (low : 4 ≤ t) (high : t ≤ 5) where
  pub rest_le : 2 * (t + 1) ≤ 2 ^ t
  rest_le = omega (arith, pow_mono {i = 4} {j = t} low)

  pub rest_is : 2 ^ (2 * (t + 1)) ≡ transform_length t * transform_length t
  rest_is = ap (λ (i : ℕ). 2 ^ i) (twice (t + 1)) ∙ pow-add 2 (t + 1) (t + 1)
    where
      twice : (n : ℕ) → 2 * n ≡ n + n
      twice n = omega arith

  pub field_square : Cong (modulus t) (scale t * scale t + 2 ^ (2 ^ t - 2 * (t + 1))) 0
  field_square =
      square_scale (transform_length t) (scale t) (2 ^ (2 ^ t - 2 * (t + 1)))
      (rw (← add-one t) at (field_root t).length)
      (c_via (ap (λ (i : ℕ). i + 1) whole ∙ omega arith) (c_multiple 0 1) refl)
    where
      parts : (b r : ℕ) → r ≤ b → r + (b - r) ≡ b
      parts b r l = omega arith

      whole : transform_length t * transform_length t * 2 ^ (2 ^ t - 2 * (t + 1)) ≡ 2 ^ (2 ^ t)
      whole =
          ap (λ (i : ℕ). i * 2 ^ (2 ^ t - 2 * (t + 1))) (sym rest_is) ∙ sym (pow-add 2 (2 * (t + 1)) (2 ^ t - 2 * (t + 1)))
          ∙ ap (λ (i : ℕ). 2 ^ i) (parts (2 ^ t) (2 * (t + 1)) rest_le)

  pub field_reducible : (v : ℕ) → v ≤ inverse_most t → Reducible (2 ^ t) (2 * (t + 1)) v
  field_reducible v h = record {
    bits_low = omega (arith, pow_mono {i = 4} {j = t} low);
    bits_high = pow_mono {i = t} {j = 5} high;
    rest = rest_le;
    bound = rw rest_is (rw (← (mul_assoc (4 * modulus t) (transform_length t) (transform_length t))) h);
  }

  pub field_residue : (v z : ℕ) → OffsetResidue (2 ^ t) (2 * (t + 1)) v z → z ≡ offset_residue t v
  field_residue v z f = residue_value (scale t) (2 ^ (2 ^ t - 2 * (t + 1))) z v (2 ^ (2 ^ t) / 2) field_square f.below f.value
