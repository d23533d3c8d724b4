-- An integer whose size is at most a limit is read from any word that represents it: the offset is added, the sum is reduced, and the offset is
-- taken away. This is the signed reading of 01. It rests on the laws of residues.
use Rattle.std.specs.Prelude.{◌≡◌, ℕ, zero, suc, ◌+◌, ◌*◌, ◌-◌, ◌/◌, ◌%◌, ◌^◌, ◌<◌, ◌≤◌, ℤ, pos, negsuc, nat_abs, ◌+ℤ◌, ◌-ℤ◌}
use Rattle.std.proofs.Math.Path.{sym, ap}
use Rattle.std.proofs.Common.{◌∙◌, subst, pow-suc, pow_pos}
use Rattle.std.proofs.Math.Decide.{dec_lt}
use Rattle.std.proofs.Math.Nat.{mod-eq_of_lt}
use native.Mathlib.Omega.{arith}
use borrow.Author.Tests.{le-leb, lt-leb}
use Rattle.algebra.specs.Residue.{Represents, signed}
use Rattle.algebra.specs.Integer.{difference_sub, difference_pos, difference_negsuc, difference_eq, ring}
use Rattle.algebra.specs.Congruence.{Cong}
use Rattle.algebra.specs.CongruenceLaws.{c_multiple}
use Rattle.algebra.specs.ResidueLaws.{represents_add, represents_congruent}
use Rattle.fermat.specs.Field.{modulus}
use Rattle.spectrum.specs.Value.{offset_of, less_offset}

-- r less `offset` is z, and r is at most `limit` above `offset`
pub record Moved (offset limit : ℕ) (z : ℤ) (r : ℕ) : Type 0 where
  pub reads : pos r -ℤ pos offset ≡ z
  pub bound : r ≤ offset + limit

move : (offset limit : ℕ) (z : ℤ) → limit ≤ offset → nat_abs z ≤ limit → (r : ℕ) × Moved offset limit z r
move offset limit (pos n) low size = (
  n + offset,
  record {
    reads = rw (difference_sub, difference_pos n) (difference_eq _ _ _ _ (omega arith));
    bound = omega arith;
  },
)
move offset limit (negsuc n) low size = (
  offset - suc n,
  record {
    reads = rw (difference_sub, difference_negsuc) (difference_eq _ _ _ _ (omega arith));
    bound = omega arith;
  },
)

module _ {m : ℕ} where
  itself : (n : ℕ) → Represents m (pos n) n
  itself n = record { multiple = pos 0; equation = ap pos (omega arith) }

  -- a word that represents z, and `offset`, make r
  moved_word : {offset limit v r : ℕ} {z : ℤ} → Represents m z v → Moved offset limit z r → Cong m (v + offset) r
  moved_word {offset} {limit} {v} {r} {z} p h =
      represents_congruent (represents_add p (itself offset)) (subst (λ x. Represents m x r) up (itself r))
    where
      up : pos r ≡ z +ℤ pos offset
      up = rw (sym h.reads, difference_sub) (simp (difference_pos, ring) (difference_eq _ _ _ _ (omega arith)))

  pub reading : (offset limit : ℕ) {v : ℕ} {z : ℤ} → limit ≤ offset → offset + limit < m → nat_abs z ≤ limit → Represents m z v
      → Moved offset limit z ((v + offset) % m)
  reading offset limit {v} {z} low high size p =
      let (r, h) = move offset limit z low size in
      let e : (v + offset) % m ≡ r = (moved_word p h).same ∙ mod-eq_of_lt (omega (arith, h.bound)) in
      rw e h

-- ---- the reading of 01

-- adding the offset, reducing and taking it away is how a residue reads, where m is odd and the offset is half of it
module _ (offset : ℕ) {m r : ℕ} (odd : m ≡ 2 * offset + 1) (below : r < m) where
  low_half : r ≤ offset → pos ((r + offset) % m) -ℤ pos offset ≡ signed m r
  unfolding signed
  low_half low =
      let half : m / 2 ≡ offset = omega arith in
      let same : (r + offset) % m ≡ r + offset = mod-eq_of_lt (omega arith) in
      rw (half, le-leb r offset low, same, difference_sub, difference_pos r) (difference_eq _ _ _ _ (omega arith))

  high_half : offset < r → pos ((r + offset) % m) -ℤ pos offset ≡ signed m r
  unfolding signed
  high_half high =
      let half : m / 2 ≡ offset = omega arith in
      let over : r + offset ≡ r + offset - m + 1 * m = omega arith in
      let same : (r + offset) % m ≡ r + offset - m =
      ap (λ (n : ℕ). n % m) over ∙ (c_multiple (r + offset - m) 1).same ∙ mod-eq_of_lt (omega arith) in
      rw (half, lt-leb r offset high, same) (difference_sub (r + offset - m) offset ∙ difference_eq _ _ _ _ (omega arith) ∙ sym (difference_sub r m))

  pub reads_signed : pos ((r + offset) % m) -ℤ pos offset ≡ signed m r
  reads_signed = by_half (dec_lt offset r)
    where
      by_half : Dec (offset < r) → pos ((r + offset) % m) -ℤ pos offset ≡ signed m r
      by_half (yes high) = high_half high
      by_half (no h) = low_half (omega arith)

-- so it is in the field of every exponent: what the code stores of a residue is its signed value
even : (b : ℕ) → 0 < b → 2 ^ b ≡ 2 * (2 ^ b / 2)
even zero some = absurd (omega arith)
even (suc b) some = omega (arith, pow-suc 2 b)

pub field_signed : (t : ℕ) {r : ℕ} → r < modulus t → less_offset (offset_of t) ((r + offset_of t) % modulus t) ≡ signed (modulus t) r
field_signed t below = reads_signed (offset_of t) (omega (arith, even (2 ^ t) (pow_pos t))) below
