-- The two transforms of a corner: what the words of each are, and the transform of the tile that they make.
-- It rests on Widening for the places, and on Tiles for the second transform.
use mathlib.Core.Path.{◌≡◌, refl, sym, ◌∙◌, subst}
use mathlib.Core.Bool.{Bool, true, false, ◌&&◌, cond}
use mathlib.Core.List.{List}
use Prim.Native.Nat.{ℕ, ◌+◌, ◌*◌, ◌/◌, ◌%◌, ◌^◌, ◌<◌, ◌≤◌}
use native.Mathlib.Nat.{mul-le-mul_right, div-lt_iff_lt-mul, mod-lt, div-add-mod'}
use native.Mathlib.Decide.{dec_lt}
use native.Mathlib.Omega.{arith}
use lib.Arith.{digits_lt}
use lib.Dec.{ltb}
use lib.ListN.{length, get_or}
use borrow.Author.Tests.{lt-ltb, le-ltb}
use borrow.Rule.Slice.PartMut.{mid_of, put_mid}
use Rattle.algebra.specs.Congruence.{Cong}
use Rattle.algebra.specs.CongruenceLaws.{c_eq, ◌⨟◌}
use Rattle.algebra.specs.PlacesLaws.{get_d_put_mid}
use Rattle.fermat.specs.Transform.{power_sum}
use Rattle.fermat.specs.TransformLaws.{c_power_sum, power_sum_zero}
use Rattle.passes.specs.Order.{reversed}
use Rattle.passes.specs.OrderLaws.{reversed_lt, place_lt}
use Rattle.passes.specs.Butterfly.{AtMost}
use Rattle.passes.specs.Halving.{word, Forward}
use Rattle.passes.specs.PartLaws.{part_length, part-word}
use Rattle.spectrum.specs.Tile.{TileForward}
use Rattle.spectrum.specs.Corner.{corner_start, corner, Cornered, Widened}
use Rattle.spectrum.proofs.Widening.{corner-inside}
use Rattle.spectrum.proofs.Tiles.{second_transform}

-- columns from k on are 0
outside : (k at : ℕ) (xs : List ℕ) (a b : ℕ) → k ≤ b → corner k at xs a b ≡ 0
outside k at xs a b le = rw (le-ltb b k le) (go (ltb a k))
  where
    go : (t : Bool) → cond (t && false) (get_or xs (at + (a * k + b)) 0) 0 ≡ 0
    go true = refl
    go false = refl

-- the s words from corner_start on come back as ys, and `widen` makes ts
pub record Wide (n k s : ℕ) (xs ys ts : List ℕ) : Type 0 where
  pub kept : length ys ≡ length (mid_of (corner_start n k) s xs)
  pub whole : length ts ≡ length xs
  pub widened : Widened n k (put_mid (corner_start n k) s xs ys) ts

-- the first transform: its part is the s words from corner_start on
module _ {n k c s : ℕ} {xs : List ℕ} (cornered : Cornered n k c xs) (part : s ≡ n * k) where
  pub corner_le : corner_start n k + s ≤ length xs
  corner_le = omega (arith, corner-inside n k cornered.small, cornered.whole)

  part-corner : (a b : ℕ) → a < n → b < k → word k a b (mid_of (corner_start n k) s xs) ≡ corner k (corner_start n k) xs a b
  part-corner a b la lb = part-word (corner_start n k) s xs corner_le (a * k + b) (omega (arith, here)) ∙ go (dec_lt a k)
    where
      here : a * k + b < n * k
      here = digits_lt la lb

      go : Dec (a < k) → get_or xs (corner_start n k + (a * k + b)) 0 ≡ corner k (corner_start n k) xs a b
      go (yes l) = rw (lt-ltb a k l, lt-ltb b k lb)
      go (no l) =
          let le : k ≤ a = omega arith in
          let after : k * k ≤ a * k = mul-le-mul_right k le in
          rw (le-ltb a k le) (cornered.empty (a * k + b) (omega arith) here)

  -- the second transform is over ts
  module _ {ys ts : List ℕ} (wide : Wide n k s xs ys ts) where
    returned : (i : ℕ) → i < s → get_or (put_mid (corner_start n k) s xs ys) (corner_start n k + i) 0 ≡ get_or ys i 0
    returned = get_d_put_mid 0 xs ys (corner_start n k) s corner_le (wide.kept ∙ part_length (corner_start n k) s xs corner_le)

    wide_word : (r j : ℕ) → r < k → j < n → word n r j ts ≡ word k j r ys
    wide_word r j lr lj =
        wide.widened.transposed r j lr lj
        ∙ returned (j * k + r) (let here : j * k + r < n * k = digits_lt lj lr in omega arith)

    wide_empty : (i : ℕ) → k * n ≤ i → i < n * n → get_or ts i 0 ≡ 0
    wide_empty = wide.widened.empty

    pub wide_length : length ts ≡ n * n
    wide_length = wide.whole ∙ cornered.whole

    pub wide_most : (e : ℕ) → AtMost e ys → AtMost e ts
    wide_most e most i l = go (dec_lt i (k * n))
      where
        some : 0 < n
        some = omega (arith, cornered.some, cornered.small)

        go : Dec (i < k * n) → get_or ts i 0 ≤ e
        go (yes h) =
            let row : i / n < k = (div-lt_iff_lt-mul some).1 h in
            let column : i % n < n = mod-lt i some in
            let here : i % n * k + i / n < n * k = digits_lt column row in
            subst (λ (p : ℕ). get_or ts p 0 ≤ e) (div-add-mod' i n)
            (rw (wide_word (i / n) (i % n) row column) (most (i % n * k + i / n) (rw (wide.kept, part_length (corner_start n k) s xs corner_le, part) here)))
        go (no h) = rw (wide_empty i (omega arith) (omega (arith, wide_length))) (omega arith)

    module _ (m w l : ℕ) (zs : List ℕ) (side : n ≡ 2 ^ l) (first : Forward m w l k (mid_of (corner_start n k) s xs) ys) where
      columns : (f j : ℕ) → f < 2 ^ l → j < n
          → Cong m (word n j (reversed l f) ts) (power_sum (2 ^ l) w (λ r. corner k (corner_start n k) xs r j) f)
      columns f j lf lj = go (dec_lt j k)
        where
          column : reversed l f < n
          column = omega (arith, reversed_lt l f lf)

          go : Dec (j < k) → Cong m (word n j (reversed l f) ts) (power_sum (2 ^ l) w (λ r. corner k (corner_start n k) xs r j) f)
          go (yes h) =
              c_eq (wide_word j (reversed l f) h column) ⨟ first f j lf h
              ⨟ c_power_sum (2 ^ l) w _ (λ r. corner k (corner_start n k) xs r j) f (λ a la. c_eq (part-corner a j (omega arith) h))
          go (no h) =
              let after : k * n ≤ j * n = mul-le-mul_right n (omega arith) in
              c_eq (wide_empty (j * n + reversed l f) (omega arith) (place_lt j (reversed l f) lj column)
              ∙ sym (power_sum_zero (2 ^ l) w (λ r. corner k (corner_start n k) xs r j) f (λ a. outside k (corner_start n k) xs a j (omega arith))))

      pub corner_forward : Forward m w l n ts zs → TileForward m w l n (corner k (corner_start n k) xs) 0 zs
      corner_forward rows = second_transform m w l n (corner k (corner_start n k) xs) ts zs side rows columns
