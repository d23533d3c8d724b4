-- The powers of 2 are exact, and each step is its law of `OffsetResidues`, with T for 2 ^ bits, N for 2 ^ rest and S for 2 ^ (bits - rest).
use mathlib.Core.Path.{◌≡◌, ap, ◌∙◌}
use Prim.Native.Nat.{ℕ, ◌+◌, ◌-◌, ◌*◌, ◌/◌, ◌%◌, ◌^◌, ◌<◌, ◌≤◌}
use native.Mathlib.Nat.{mod-lt, mul_comm}
use native.Mathlib.Omega.{arith}
use lib.Pow.{pow-add, pow_pos, pow_mono, shl_exact}
use Rattle.algebra.specs.CongruenceLaws.{c_refl, c_add, ◌⨟◌}
use Rattle.fermat.specs.FieldSizeLaws.{one_shl}
use Rattle.spectrum.proofs.OffsetResidues.{moved_low, moved_high, moved_value, folded_low, folded_high, folded_value, Reduced, reduced}
use Rattle.spectrum.proofs.product.offset_residue.Goals as goal
use Rattle.spectrum.proofs.product.offset_residue.Goals.{Start}

module _ (c : Start) where
  abbrev T : ℕ
  T = 2 ^ c.args.bits

  abbrev N : ℕ
  N = 2 ^ c.args.rest

  abbrev S : ℕ
  S = 2 ^ (c.args.bits - c.args.rest)

  top_is : (1 * 2 ^ c.args.bits) % 2 ^ 64 ≡ T
  top_is = one_shl c.args.bits c.requires.0.bits_high

  cut_is : (1 * 2 ^ c.args.rest) % 2 ^ 64 ≡ N
  cut_is = one_shl c.args.rest (omega arith)

  low_is : (c.args.v % N * S) % 2 ^ 64 ≡ c.args.v % N * S
  low_is = shl_exact c.args.rest (c.args.bits - c.args.rest) 64 (mod-lt c.args.v (pow_pos c.args.rest)) (omega arith)

  whole : T ≡ N * S
  whole = ap (λ (i : ℕ). 2 ^ i) (parts c.args.bits c.args.rest c.requires.0.rest) ∙ pow-add 2 c.args.rest (c.args.bits - c.args.rest)
    where
      parts : (b r : ℕ) → r ≤ b → b ≡ r + (b - r)
      parts b r l = omega arith

  offset_is : c.args.offset ≡ T / 2
  offset_is = c.requires.1

  large : 16 ≤ T
  large = pow_mono {i = 4} {j = c.args.bits} c.requires.0.bits_low

  small : T ≤ 4294967296
  small = pow_mono {i = c.args.bits} {j = 32} c.requires.0.bits_high

  abbrev y : ℕ
  y = c.args.v / N + (T + 1 + T / 2) - c.args.v % N * S

  y_low : c.args.v % N * S ≤ c.args.v / N + (T + 1 + T / 2)
  y_low = moved_low T N S c.args.v whole (pow_pos c.args.rest) c.requires.0.bound

  y_high : c.args.v / N + (T + 1 + T / 2) ≤ 6 * T + 6
  y_high = moved_high T N S c.args.v whole (pow_pos c.args.rest) c.requires.0.bound

  y_most : y ≤ 6 * T + 6
  y_most = omega (arith, y_high)

  abbrev q : ℕ
  q = y % T + (T + 1) - y / T

  q_low : y / T ≤ y % T + (T + 1)
  q_low = folded_low T y large y_most

  q_high : q < 2 * (T + 1)
  q_high = folded_high T y large y_most

  four : 2 ^ (c.args.bits + 2) ≡ 4 * T
  four = pow-add 2 c.args.bits 2 ∙ mul_comm T 4

  last : Reduced T q large q_high (q - (q + (3 * T - 1)) / (4 * T) * (T + 1))
  last = reduced T q large q_high

pub overflow_add-y : goal.overflow_add-y
overflow_add-y c = rw (top_is c) (omega (arith, small c))

pub overflow_add-y-2 : goal.overflow_add-y-2
overflow_add-y-2 c = rw (top_is c, offset_is c) (omega (arith, small c))

pub overflow_add-y-3 : goal.overflow_add-y-3
overflow_add-y-3 c = rw (top_is c, offset_is c) (omega (arith, small c, y_high c))

pub nonzero_rem-y : goal.nonzero_rem-y
nonzero_rem-y c = rw (cut_is c) (pow_pos c.args.rest)

pub overflow_sub-y-2 : goal.overflow_sub-y-2
overflow_sub-y-2 c = simp (top_is c, offset_is c, cut_is c, low_is c) (y_low c)

pub nonzero_rem-q : goal.nonzero_rem-q
nonzero_rem-q c = rw (top_is c) (omega (arith, large c))

pub overflow_add-q : goal.overflow_add-q
overflow_add-q c = rw (top_is c) (omega (arith, small c))

pub overflow_add-q-2 : goal.overflow_add-q-2
overflow_add-q-2 c = simp (top_is c, offset_is c, cut_is c, low_is c) (omega (arith, small c, mod-lt (y c) (pow_pos c.args.bits)))

pub overflow_sub-q : goal.overflow_sub-q
overflow_sub-q c = simp (top_is c, offset_is c, cut_is c, low_is c) (q_low c)

pub overflow_mul-over : goal.overflow_mul-over
overflow_mul-over c = rw (top_is c) (omega (arith, small c))

pub overflow_sub-over : goal.overflow_sub-over
overflow_sub-over c = rw (top_is c) (omega (arith, large c))

pub overflow_add-over : goal.overflow_add-over
overflow_add-over c = simp (top_is c, offset_is c, cut_is c, low_is c) (omega (arith, small c, q_high c))

pub overflow_add-over-2 : goal.overflow_add-over-2
overflow_add-over-2 c = omega arith

pub overflow_add-result : goal.overflow_add-result
overflow_add-result c = rw (top_is c) (omega (arith, small c))

pub overflow_mul-result : goal.overflow_mul-result
overflow_mul-result c = simp (top_is c, offset_is c, cut_is c, low_is c, four c) (omega (arith, small c, q_high c, (last c).fits))

pub overflow_sub-result : goal.overflow_sub-result
overflow_sub-result c = simp (top_is c, offset_is c, cut_is c, low_is c, four c) (last c).fits

pub returns : goal.returns
returns c =
    simp (top_is c, offset_is c, cut_is c, low_is c, four c)
    (record {
      below = (last c).below;
      value = c_add ((last c).value ⨟ folded_value (T c) (y c) (large c) (y_most c)) c_refl
          ⨟ moved_value (T c) (N c) (S c) c.args.v (whole c) (pow_pos c.args.rest) c.requires.0.bound;
    })
