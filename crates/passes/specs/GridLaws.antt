-- What the passes ask of a buffer whose length is a power of 2, and that a row of N words meets it in every field up to F_5.
use Rattle.std.specs.Prelude.{◌≡◌, ℕ, ◌+◌, ◌*◌, ◌/◌, ◌^◌, ◌<◌, ◌≤◌}
use Rattle.std.proofs.Common.{sym, ap, ◌∙◌, mul-le-mul_left, add-one, arith, pow_pos, pow_mono}
use Rattle.std.proofs.Math.Nat.{two-pow-succ}
use Rattle.fermat.specs.Field.{modulus, transform_length}
use Rattle.fermat.specs.FieldSizeLaws.{bits_high, power_high}
use Rattle.passes.specs.Butterfly.{Bound}
use Rattle.passes.specs.Passes.{passes, Grid}
use Rattle.passes.specs.PassLaws.{passes_power}

-- what a transform asks of a buffer, its length a power of 2
pub grid : {s n lanes unit b c : ℕ} (l : ℕ) → n ≡ 2 ^ l → l ≤ 6 → s ≡ n * lanes → unit * n ≡ 2 * b → c * n < 9223372036854775808
    → Grid s n lanes unit b c
grid {n = n} l side short whole period room =
    let count : passes n ≡ l = passes_power side (omega arith) in
    record { whole = whole; power = side ∙ ap (λ (i : ℕ). 2 ^ i) (sym count); short = omega (arith, count); period = period; room = room }

module _ (t : ℕ) (high : t ≤ 5) where
  pub row_bound : Bound (2 ^ t) (2 * modulus t)
  row_bound =
      let half : 2 * modulus t / 2 ≡ modulus t = omega arith in
      record {
        even = omega arith;
        halved = record { bits_low = pow_pos t; bits_high = bits_high t high; times = 1; some = omega arith; is = half ∙ omega arith };
        fits = omega (arith, power_high t high);
      }

  pub row_grid : {n : ℕ} → n ≡ transform_length t → Grid n n 1 1 (2 ^ t) (2 * modulus t)
  row_grid {n} e =
      let short : n ≤ 64 = rw e (pow_mono {i = t + 1} {j = 6} (omega arith)) in
      let most : 2 * modulus t * n ≤ 2 * modulus t * 64 = mul-le-mul_left (2 * modulus t) short in
      let twice : transform_length t ≡ 2 ^ t + 2 ^ t = rw add-one (two-pow-succ t) in
      grid (t + 1) e (omega arith) (omega arith) (omega (arith, twice)) (omega (arith, power_high t high))

  pub row-passes : {n : ℕ} → n ≡ transform_length t → passes n ≡ t + 1
  row-passes e = passes_power e (omega arith)
