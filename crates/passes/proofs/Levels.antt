-- The numbers of a pass. At level i of a transform of length n there are 2 ^ i blocks of two halves of n / 2 ^ (i + 1) rows.
use mathlib.Core.Path.{◌≡◌, sym, ap, ◌∙◌}
use Prim.Native.Nat.{ℕ, suc, ◌+◌, ◌-◌, ◌*◌, ◌/◌, ◌^◌, ◌<◌, ◌≤◌}
use native.Mathlib.Nat.{two-pow-succ, mul-le-mul_left, mul-le-mul_right, dvd-mul_left, dvd-mul_right, pos_of_dvd_of_pos}
use native.Mathlib.Omega.{arith}
use lib.Pow.{pow_mono, pow-add, shl-shr}
use Rattle.passes.specs.Butterfly.{Bound, StageSizes}
use Rattle.passes.specs.Passes.{Direction, Forward, Inverse, passes, level_of, Grid}

pub level_lt : (direction : Direction) (p l : ℕ) → p < l → level_of direction p (l - 1 - p) < l
level_lt Forward p l h = h
level_lt Inverse p l h = omega arith

-- the numbers of g blocks of two halves of h rows, s words in all: h is half the period of 2 ^ (unit g), whose power h is then 2 ^ b, or −1
pub record Level (s lanes unit b g h : ℕ) : Type 0 where
  pub whole : s ≡ g * (2 * (h * lanes))
  pub turns : unit * g * h ≡ b
  pub step : 0 < unit * g
  pub some : 0 < h

module _ {s n lanes unit b c : ℕ} (bound : Bound b c) (grid : Grid s n lanes unit b c) where
  -- the length divided by some powers of 2
  pub quotient : (i k : ℕ) → i + k ≡ passes n → n / 2 ^ i ≡ 2 ^ k
  quotient i k e =
      ap (λ (x : ℕ). x / 2 ^ i) (grid.power ∙ ap (λ (l : ℕ). 2 ^ l) (sym e ∙ omega arith) ∙ pow-add 2 k i) ∙ shl-shr (2 ^ k) i

  pub half_rows : (i : ℕ) → i < passes n → n / 2 ^ i ≡ 2 * (n / 2 ^ (i + 1))
  half_rows i l =
      let k : ℕ = passes n - (i + 1) in
      quotient i (suc k) (omega arith) ∙ two-pow-succ k ∙ omega (arith, quotient (i + 1) k (omega arith))

  pub level : (i : ℕ) → i < passes n → Level s lanes unit b (2 ^ i) (n / 2 ^ (i + 1))
  level i l =
      let g : ℕ = 2 ^ i in
      let h : ℕ = n / 2 ^ (i + 1) in
      let k : ℕ = passes n - i in
      let rows : n ≡ g * (2 * h) =
      grid.power ∙ ap (λ (e : ℕ). 2 ^ e) (omega arith) ∙ pow-add 2 i k ∙ ap (λ (e : ℕ). g * e) (sym (quotient i k (omega arith)) ∙ half_rows i l) in
      let period : 2 * (unit * g * h) ≡ 2 * b = twice unit g h ∙ ap (λ (e : ℕ). unit * e) (sym rows) ∙ grid.period in
      let some : 0 < unit * g * h = omega (arith, bound.halved.bits_low) in
      record {
        whole = grid.whole ∙ ap (λ (e : ℕ). e * lanes) rows ∙ by_lanes g h lanes;
        turns = omega (arith, period);
        step = pos_of_dvd_of_pos (dvd-mul_right (unit * g) h) some;
        some = pos_of_dvd_of_pos (dvd-mul_left h (unit * g)) some;
      }
    where
      by_lanes : (g h lanes : ℕ) → g * (2 * h) * lanes ≡ g * (2 * (h * lanes))
      by_lanes g h lanes = omega arith

      twice : (u g h : ℕ) → 2 * (u * g * h) ≡ u * (g * (2 * h))
      twice u g h = omega arith

  pub power_le : (p : ℕ) → p ≤ passes n → 2 ^ p ≤ n
  power_le p l = omega (arith, grid.power, pow_mono {i = p} {j = passes n} (omega arith))

  -- the unit of a level, and that the bound after p passes may be doubled once more
  pub unit_most : (i : ℕ) → i < passes n → unit * 2 ^ i ≤ 64
  unit_most i l = omega (arith, mul-le-mul_left unit (power_le i (omega arith)), grid.period, bound.halved.bits_high)

  pub room_left : (p : ℕ) → p < passes n → c * 2 ^ p < 4611686018427387904
  room_left p l =
      let most : c * 2 ^ suc p ≤ c * n = mul-le-mul_left c (power_le (suc p) (omega arith)) in
      let twice : c * 2 ^ suc p ≡ 2 * (c * 2 ^ p) = rw (two-pow-succ p) (omega arith) in
      omega (arith, most, twice, grid.room)

-- the sizes of a pass's stages, over some of the rows of a half
pub sized : {s lanes unit b g h : ℕ} → Level s lanes unit b g h → (rows : ℕ) → 0 < rows → rows ≤ h
    → StageSizes (2 * (h * lanes)) rows lanes (h * lanes) (unit * g) b
sized {lanes = lanes} {unit} {g = g} z rows some le = record {
  whole = omega arith;
  inside = mul-le-mul_right lanes le;
  some = some;
  step = z.step;
  turns = omega (arith, z.turns, mul-le-mul_left (unit * g) le);
}
