-- The laws of residues. The residue of a sum or a product is that of the residues' sum or product, and an integer whose size is at most
-- half an odd m is read back from its residue. It rests on `Integer`: that r represents z is an equation of integers.
use Rattle.std.specs.Prelude.{◌≡◌, refl, ℕ, zero, suc, ◌+◌, ◌*◌, ◌-◌, ◌/◌, ◌%◌, ◌≤◌, ◌<◌, ℤ, nat_abs, ◌+ℤ◌, ◌-ℤ◌, ◌*ℤ◌}
use Rattle.std.proofs.Common.{sym, ◌∙◌, mod-eq_of_lt, arith, le-leb}
use Rattle.std.proofs.Math.Path.{ap}
use Rattle.std.proofs.Math.Nat.{mod-lt, div-add-mod'}
use Rattle.std.proofs.lemmas.Bool.{lt-leb}
use Rattle.std.proofs.Math.IntN.{pos, negsuc}
use Rattle.algebra.specs.Sum.{sum, sum_z}
use Rattle.algebra.specs.SumLaws.{sum_none, sum_last, sum_z_none, sum_z_last}
use Rattle.algebra.specs.Congruence.{Cong}
use Rattle.algebra.specs.CongruenceLaws.{c_eq, c_sym, ◌⨟◌, c_multiple, c_small}
use Rattle.algebra.specs.Integer.{difference_sub, difference_pos, difference_negsuc, difference_eq, difference_inj, every₂, ring}
use Rattle.algebra.specs.Residue.{residue, signed, Represents}

-- Representatives of a sum, of a product and of a sum of many.
pub represents_add : {m : ℕ} {x y : ℤ} {r s : ℕ} → Represents m x r → Represents m y s → Represents m (x +ℤ y) (r + s)
represents_add {m = m} {r = r} {s = s} p q = record {
  multiple = p.multiple +ℤ q.multiple;
  equation = rw (p.equation, q.equation) (every₂
      (λ k l. pos r +ℤ k *ℤ pos m +ℤ (pos s +ℤ l *ℤ pos m) ≡ pos (r + s) +ℤ (k +ℤ l) *ℤ pos m)
      (λ a b c d. simp (difference_pos, ring) (difference_eq _ _ _ _ (omega arith))) p.multiple q.multiple);
}

pub represents_mul : {m : ℕ} {x y : ℤ} {r s : ℕ} → Represents m x r → Represents m y s → Represents m (x *ℤ y) (r * s)
represents_mul {m = m} {r = r} {s = s} p q = record {
  multiple = pos r *ℤ q.multiple +ℤ p.multiple *ℤ (pos s +ℤ q.multiple *ℤ pos m);
  equation = rw (p.equation, q.equation) (every₂
      (λ k l. (pos r +ℤ k *ℤ pos m) *ℤ (pos s +ℤ l *ℤ pos m) ≡ pos (r * s) +ℤ (pos r *ℤ l +ℤ k *ℤ (pos s +ℤ l *ℤ pos m)) *ℤ pos m)
      (λ a b c d. simp (difference_pos, ring) (difference_eq _ _ _ _ (omega arith))) p.multiple q.multiple);
}

pub represents_sum : {m : ℕ} (n : ℕ) {f : ℕ → ℤ} {g : ℕ → ℕ}
    → ((i : ℕ) → i < n → Represents m (f i) (g i)) → Represents m (sum_z n f) (sum n g)
represents_sum zero {f} {g} h = record { multiple = pos 0; equation = rw (sum_z_none f, sum_none g) (ap pos (omega arith)) }
represents_sum (suc n) {f} {g} h =
    rw (sum_z_last n f, sum_last n g) (represents_add (represents_sum n (λ i l. h i (omega arith))) (h n (omega arith)))

-- Two representatives of one integer are congruent, and equal if both are below m.
pub represents_congruent : {m : ℕ} {z : ℤ} {r s : ℕ} → Represents m z r → Represents m z s → Cong m r s
represents_congruent {m = m} {r = r} {s = s} p q = every₂
    (λ k l. pos r +ℤ k *ℤ pos m ≡ pos s +ℤ l *ℤ pos m → Cong m r s)
    (λ a b c d e. congruent (a + d) (c + b) (omega (arith, difference_inj _ _ _ _ (simp (difference_pos, ring) at e))))
    p.multiple q.multiple (sym p.equation ∙ q.equation)
  where
    congruent : (k l : ℕ) → r + k * m ≡ s + l * m → Cong m r s
    congruent k l e = c_sym (c_multiple r k) ⨟ c_eq e ⨟ c_multiple s l

pub represents_unique : {m : ℕ} {z : ℤ} {r s : ℕ} → r < m → s < m → Represents m z r → Represents m z s → r ≡ s
represents_unique h k p q = c_small h k (represents_congruent p q)

-- The residue is the representative below m.
module _ {m : ℕ} (m>0 : 0 < m) where
  pub residue_lt : (z : ℤ) → residue m z < m
  unfolding residue
  residue_lt (pos n) = mod-lt n m>0
  residue_lt (negsuc n) = omega (arith, mod-lt n m>0)

  pub residue_represents : (z : ℤ) → Represents m z (residue m z)
  unfolding residue
  residue_represents (pos n) = record {
    multiple = pos (n / m);
    equation = ap pos (omega (arith, div-add-mod' n m));
  }
  residue_represents (negsuc n) = record {
    multiple = negsuc (n / m);
    equation = simp (difference_pos, difference_negsuc, ring) (difference_eq _ _ _ _ (omega (arith, div-add-mod' n m, mod-lt n m>0)));
  }

  -- It is found from any representative.
  pub residue_of : {z : ℤ} {r : ℕ} → Represents m z r → residue m z ≡ r % m
  residue_of {z} p = sym (mod-eq_of_lt (residue_lt z)) ∙ (represents_congruent (residue_represents z) p).same

  pub residue_add : (x y : ℤ) → residue m (x +ℤ y) ≡ (residue m x + residue m y) % m
  residue_add x y = residue_of (represents_add (residue_represents x) (residue_represents y))

  pub residue_mul : (x y : ℤ) → residue m (x *ℤ y) ≡ residue m x * residue m y % m
  residue_mul x y = residue_of (represents_mul (residue_represents x) (residue_represents y))

  pub residue-sum : (n : ℕ) (f : ℕ → ℤ) → residue m (sum_z n f) ≡ sum n (λ i. residue m (f i)) % m
  residue-sum n f = residue_of (represents_sum n (λ i l. residue_represents (f i)))

-- The two cases of the signed reading.
pub signed_low : (m r : ℕ) → r ≤ m / 2 → signed m r ≡ pos r
unfolding signed
signed_low m r h = rw le-leb

pub signed_high : (m r : ℕ) → m / 2 < r → signed m r ≡ pos r -ℤ pos m
unfolding signed
signed_high m r h = rw lt-leb

-- Where m is odd, an integer whose size is at most half of m is read back from its residue.
pub read_back : (m : ℕ) (z : ℤ) → m % 2 ≡ 1 → nat_abs z ≤ m / 2 → signed m (residue m z) ≡ z
unfolding residue
read_back m (pos n) odd h =
    let below : n < m = omega arith in
    rw mod-eq_of_lt (signed_low m n h)
read_back m (negsuc n) odd h =
    let below : n < m = omega arith in
    let high : m / 2 < m - suc n = omega arith in
    rw (mod-eq_of_lt, signed_high, difference_sub, difference_negsuc) (difference_eq _ _ _ _ (omega arith))

-- Worked examples in 65,537 and 4,294,967,297.
half_reads_as_itself : signed 65537 32768 ≡ pos 32768
unfolding signed
half_reads_as_itself = refl

last_reads_as_minus_one : signed 65537 65536 ≡ negsuc 0
unfolding signed
last_reads_as_minus_one = refl

minus_half_reads_back : signed 65537 (residue 65537 (negsuc 32767)) ≡ negsuc 32767
unfolding signed residue
minus_half_reads_back = refl

last_of_the_large_field : signed 4294967297 4294967296 ≡ negsuc 0
unfolding signed
last_of_the_large_field = refl
