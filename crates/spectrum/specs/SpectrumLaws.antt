-- Laws of `TileForward`: words that hold the transform of a tile. The words may be changed to congruent ones and may move, the tile may
-- be changed to a congruent one, and a product added word by word adds a circular convolution to the tile.
use Rattle.std.specs.Prelude.{◌≡◌, refl, List, ℕ, ◌+◌, ◌*◌, ◌^◌, ◌≤◌, ◌<◌, length, get_or}
use Rattle.std.proofs.Common.{sym, ap, ◌∙◌, zero-add, add_assoc, add-one, arith}
use borrow.Rule.Slice.PartMut.{put_mid}
use Rattle.algebra.specs.Congruence.{Cong}
use Rattle.algebra.specs.CongruenceLaws.{c_eq, c_sym, ◌⨟◌, c_add, c_mul}
use Rattle.algebra.specs.PlacesLaws.{get_d_put_mid}
use Rattle.fermat.specs.Field.{modulus, transform_length}
use Rattle.fermat.specs.Transform.{circular2}
use Rattle.fermat.specs.RootLaws.{root_period}
use Rattle.fermat.specs.FieldLaws.{field_root}
use Rattle.fermat.specs.TransformLaws.{c_power_sum2, power_sum2_add, power_sum2_zero}
use Rattle.fermat.specs.ConvolutionLaws.{circular2_power_sum}
use Rattle.passes.specs.Order.{reversed}
use Rattle.passes.specs.OrderLaws.{reversed_lt, place_lt}
use Rattle.spectrum.specs.Tile.{TileForward, Spectrum}
use Rattle.spectrum.specs.Product.{Accumulated}

-- each entry stands at one of the n n places
entry_lt : {n : ℕ} (l k i : ℕ) → n ≡ 2 ^ l → k < 2 ^ l → i < 2 ^ l → reversed l i * n + reversed l k < n * n
entry_lt l k i side lk li = place_lt (reversed l i) (reversed l k) (omega (arith, reversed_lt l i li)) (omega (arith, reversed_lt l k lk))

-- words that are all 0 hold the transform of 0
pub spectrum_none : {m w l n at : ℕ} {ys : List ℕ} → n ≡ 2 ^ l → ((i : ℕ) → i < n * n → get_or ys (at + i) 0 ≡ 0)
    → TileForward m w l n (λ r j. 0) at ys
spectrum_none {w = w} {l} {n} side none = record {
  entries = λ k i lk li. c_eq (none (reversed l i * n + reversed l k) (entry_lt l k i side lk li) ∙ sym (power_sum2_zero (2 ^ l) w k i));
}

module _ {m w l n : ℕ} {x : ℕ → ℕ → ℕ} where
  -- a congruent tile
  pub spectrum_alike : {y : ℕ → ℕ → ℕ} {at : ℕ} {ys : List ℕ} → TileForward m w l n x at ys
      → ((r j : ℕ) → r < 2 ^ l → j < 2 ^ l → Cong m (x r j) (y r j)) → TileForward m w l n y at ys
  spectrum_alike {y} f same = record { entries = λ k i lk li. f.entries k i lk li ⨟ c_power_sum2 (2 ^ l) w x y k i same }

  -- congruent words, from another place on
  pub spectrum_moved : {a b : ℕ} {xs ys : List ℕ} → n ≡ 2 ^ l → TileForward m w l n x a xs
      → ((i : ℕ) → i < n * n → Cong m (get_or ys (b + i) 0) (get_or xs (a + i) 0)) → TileForward m w l n x b ys
  spectrum_moved side f same = record {
    entries = λ k i lk li. same (reversed l i * n + reversed l k) (entry_lt l k i side lk li) ⨟ f.entries k i lk li;
  }

  -- the same words
  pub spectrum_kept : {at : ℕ} {xs ys : List ℕ} → n ≡ 2 ^ l → TileForward m w l n x at xs
      → ((i : ℕ) → i < n * n → get_or ys (at + i) 0 ≡ get_or xs (at + i) 0) → TileForward m w l n x at ys
  spectrum_kept side f same = spectrum_moved side f (λ i h. c_eq (same i h))

  -- words of a part that was lent and came back
  pub spectrum_lent : {at : ℕ} {ys : List ℕ} (xs : List ℕ) (a k : ℕ) → n ≡ 2 ^ l → TileForward m w l n x at ys
      → at + n * n ≤ k → length ys ≡ k → a + k ≤ length xs → TileForward m w l n x (a + at) (put_mid a k xs ys)
  spectrum_lent {at} {ys} xs a k side f inside size le =
      spectrum_moved side f
      (λ i h. c_eq (ap (λ (p : ℕ). get_or (put_mid a k xs ys) p 0) (add_assoc a at i) ∙ get_d_put_mid 0 xs ys a k le size (at + i) (omega arith)))

  -- products added word by word
  pub spectrum_sum : {y z : ℕ → ℕ → ℕ} {a b c d : ℕ} {xs ys : List ℕ} → n ≡ 2 ^ l → Cong m (w ^ (2 ^ l)) 1
      → TileForward m w l n z a xs → TileForward m w l n x b xs → TileForward m w l n y c xs
      → ((i : ℕ) → i < n * n → Cong m (get_or ys (d + i) 0) (get_or xs (a + i) 0 + get_or xs (b + i) 0 * get_or xs (c + i) 0))
      → TileForward m w l n (λ r j. z r j + circular2 (2 ^ l) x y r j) d ys
  spectrum_sum {y} {z} side one fz fx fy sum = record {
    entries = λ k i lk li.
        sum (reversed l i * n + reversed l k) (entry_lt l k i side lk li)
        ⨟ c_add (fz.entries k i lk li) (c_mul (fx.entries k i lk li) (fy.entries k i lk li) ⨟ c_sym (circular2_power_sum (2 ^ l) w one x y k i))
        ⨟ c_eq (sym (power_sum2_add (2 ^ l) w z (circular2 (2 ^ l) x y) k i));
  }

-- 2 to the power of the length is 1
pub field_period : (t : ℕ) → Cong (modulus t) (2 ^ transform_length t) 1
field_period t = rw (add-one t) (root_period t 2 (field_root t).half_period)

-- what `accumulate` does: the sum stands first, then the two factors
pub spectrum_accumulated : {t count : ℕ} {x y z : ℕ → ℕ → ℕ} {xs ys : List ℕ} → count ≡ transform_length t * transform_length t → Accumulated t count xs ys
    → Spectrum t z 0 xs → Spectrum t x count xs → Spectrum t y (count + count) xs
    → Spectrum t (λ r j. z r j + circular2 (transform_length t) x y r j) 0 ys
spectrum_accumulated {t} {count} {xs = xs} {ys} size added fz fx fy = spectrum_sum refl (field_period t) fz fx fy here
  where
    here : (i : ℕ) → i < transform_length t * transform_length t
        → Cong (modulus t) (get_or ys (0 + i) 0) (get_or xs (0 + i) 0 + get_or xs (count + i) 0 * get_or xs (count + count + i) 0)
    here i h = rw (zero-add i, add_assoc count count i) (added.sum i (omega arith))
