-- The two transforms of a tile, of its columns and of its rows: what they make together.
use mathlib.Core.Path.{◌≡◌, refl, ap}
use mathlib.Core.List.{List}
use Prim.Native.Nat.{ℕ, ◌+◌, ◌-◌, ◌*◌, ◌^◌, ◌<◌}
use native.Mathlib.Nat.{zero-add}
use native.Mathlib.Omega.{arith}
use lib.ListN.{length, get_or}
use Rattle.algebra.specs.PowerLaws.{pow_one}
use Rattle.algebra.specs.Congruence.{Cong}
use Rattle.algebra.specs.CongruenceLaws.{c_eq, ◌⨟◌, c_via}
use Rattle.fermat.specs.Transform.{power_sum, power_sum2}
use Rattle.fermat.specs.TransformLaws.{c_power_sum, power_sum_swap}
use Rattle.passes.specs.Order.{reversed, across, Permuted}
use Rattle.passes.specs.Halving as Lanes
use Rattle.passes.specs.Halving.{word}
use Rattle.passes.specs.Passes.{Direction, Forward, Inverse, Transformed}
use Rattle.passes.specs.OrderLaws.{reversed_lt, transposed}
use Rattle.spectrum.specs.Tile.{TileForward, TileInverse, TileTransformed}

-- the transform of the rows, where column k in bit-reversed order holds the transforms of the columns of x at k
pub second_transform : (m w l n : ℕ) (x : ℕ → ℕ → ℕ) (ts zs : List ℕ) → n ≡ 2 ^ l → Lanes.Forward m w l n ts zs
    → ((k j : ℕ) → k < 2 ^ l → j < n → Cong m (word n j (reversed l k) ts) (power_sum (2 ^ l) w (λ r. x r j) k)) → TileForward m w l n x 0 zs
unfolding power_sum2
second_transform m w l n x ts zs side rows columns = record {
  entries = λ k i lk li.
      c_eq (ap (λ (p : ℕ). get_or zs p 0) (zero-add (reversed l i * n + reversed l k)))
      ⨟ rows i (reversed l k) li (omega (arith, reversed_lt l k lk))
      ⨟ c_via refl
      (c_power_sum (2 ^ l) w (λ j. word n j (reversed l k) ts) (λ j. power_sum (2 ^ l) w (λ r. x r j) k) i (λ j lj. columns k j lk (omega arith)))
      (power_sum_swap (2 ^ l) w w x k i);
}

module _ (m w l n : ℕ) (xs ys ts zs : List ℕ) (side : n ≡ 2 ^ l) (size : length ys ≡ n * n) (swapped : Permuted (across n) ys ts) where
  tile_forward : Lanes.Forward m w l n xs ys → Lanes.Forward m w l n ts zs → TileForward m w l n (λ r j. word n r j xs) 0 zs
  tile_forward columns rows =
      second_transform m w l n (λ r j. word n r j xs) ts zs side rows
      (λ k j lk lj. c_eq (transposed ys ts swapped size j (reversed l k) lj (omega (arith, reversed_lt l k lk))) ⨟ columns k j lk lj)

  tile_inverse : Lanes.Inverse m w l n xs ys → Lanes.Inverse m w l n ts zs → TileInverse m w l n xs zs
  unfolding power_sum2
  tile_inverse columns rows r j lr lj =
      let column : j < n = omega arith in
      rows r j lr column
      ⨟ c_power_sum (2 ^ l) w (λ k. word n (reversed l k) j ts) (λ k. power_sum (2 ^ l) w (λ i. word n (reversed l i) (reversed l k) xs) j) r
      (λ k lk. let row : reversed l k < n = omega (arith, reversed_lt l k lk) in
      c_eq (transposed ys ts swapped size (reversed l k) j row column) ⨟ columns j (reversed l k) lj row)

-- in either direction
pub tile_transformed : (direction : Direction) (b l n : ℕ) (xs ys ts zs : List ℕ) → n ≡ 2 ^ l → length ys ≡ n * n → Permuted (across n) ys ts
    → Transformed direction b 1 l n xs ys → Transformed direction b 1 l n ts zs → TileTransformed direction b l n xs zs
tile_transformed Forward b l n xs ys ts zs side size swapped columns rows = tile_forward (2 ^ b + 1) 2 l n xs ys ts zs side size swapped columns rows
tile_transformed Inverse b l n xs ys ts zs side size swapped columns rows =
    let one = pow_one (2 ^ (b - 1) + 1) in
    tile_inverse (2 ^ b + 1) (2 ^ (b - 1) + 1) l n xs ys ts zs side size swapped (rw one at columns) (rw one at rows)
