-- The joined kernel on one output: CONV with it is CONV with the second kernel over CONV with the first, for all sizes. Each place of the
-- joined kernel is met by the pairs of places that add up to it (`adding`), first in one plane, then summed over channels.
-- It rests on layer's exchange of two sums and on the laws of double sums.
use Rattle.std.specs.Prelude.{◌≡◌, true, List, ℕ, ◌+◌, ◌*◌, ◌-◌, ◌/◌, ◌%◌, ◌<◌, ◌≤◌, ◌*ℤ◌}
use Rattle.std.proofs.Common.{sym, ap, ap₂, ◌∙◌, arith}
use Rattle.std.proofs.Math.Arith.{digits_lt, digits_div, digits_mod}
use Rattle.std.proofs.Math.IntN.{ℤ}
use Rattle.algebra.specs.Planes.{cell, stacked}
use Rattle.algebra.specs.Sum.{sum_z}
use Rattle.algebra.specs.SumLaws.{integers, sum_cong, sum_swap}
use Rattle.algebra.specs.Integer.{sum_z_mul, sum_z_mul_right, difference_eq, every₃, ring}
use Rattle.algebra.specs.PlanesLaws.{cell-stacked}
use Rattle.algebra.specs.DoubleSums.{sum2, sum2_cong, sum2_mul, sum2_mul_right, sum2-inside, sum2_swap}
use Rattle.layer.specs.Shape.{conv_size}
use Rattle.layer.specs.ShapeLaws.{window_fits}
use Rattle.layer.specs.Direct.{within, shifted, conv}
use Rattle.layer.specs.WindowLaws.{Matching, exchange_product, within_is, within_yes, shifted-cell}
use Rattle.joined.specs.Joined.{joined_weight}

-- place a of the joined kernel and place p of the second one, where place i of the first and p add up to a
adding : (i L side : ℕ) → i + L ≤ side → Matching side L (λ a. within i L a) (λ a. a - i) (λ p. true) (λ p. p + i)
adding i L side room = record {
  forth = λ a l t. let h = within_is i L a t in (h.1, tt, omega (arith, h.0));
  back = λ p l t. (omega arith, within_yes i L (p + i) (omega arith) (omega arith), omega arith);
}

-- products of three: the last two factors change places, or the first two
last_two : (x y z : ℤ) → x *ℤ y *ℤ z ≡ x *ℤ (z *ℤ y)
last_two = every₃ (λ x y z. x *ℤ y *ℤ z ≡ x *ℤ (z *ℤ y)) (λ a b c d e f. simp ring (difference_eq _ _ _ _ (omega arith)))

first_two : (x y z : ℤ) → x *ℤ (y *ℤ z) ≡ y *ℤ (x *ℤ z)
first_two = every₃ (λ x y z. x *ℤ (y *ℤ z) ≡ y *ℤ (x *ℤ z)) (λ a b c d e f. simp ring (difference_eq _ _ _ _ (omega arith)))

-- a place that lies inside its plane
shifted-inside : (A B : ℕ) (values : List ℤ) (k u v : ℕ) → u < A → v < B → shifted A B values k 0 u 0 v ≡ cell A B values k u v
shifted-inside A B values k u v row column =
    let down : u - 0 ≡ u = omega arith in
    let across : v - 0 ≡ v = omega arith in
    shifted-cell A B values k 0 u 0 v (omega arith) (omega arith) (omega arith) (omega arith) ∙ rw (down, across)

-- K, L: the sides of the first and of the second kernel
module _ (K L : ℕ) where
  -- the joined side
  abbrev side : ℕ
  side = K + L - 1

  -- ---- one plane

  -- u: a plane of the first kernel; k: the plane of the second; x: the map under the window of the joined kernel
  module _ (u : ℕ → ℕ → ℤ) (second : List ℤ) (k : ℕ) (x : ℕ → ℕ → ℤ) where
    plane_joined : sum2 side side (λ a b. sum2 K K (λ i j. u i j *ℤ shifted L L second k i a j b) *ℤ x a b)
        ≡ sum2 L L (λ p q. cell L L second k p q *ℤ sum2 K K (λ i j. u i j *ℤ x (p + i) (q + j)))
    plane_joined =
        sum2_cong side side _ _ (λ a b _ _.
        sym (sum2_mul_right K K (λ i j. u i j *ℤ shifted L L second k i a j b) (x a b))
        ∙ sum2_cong K K _ _ (λ i j _ _. last_two (u i j) (shifted L L second k i a j b) (x a b)))
        ∙ sum2_swap side side K K (λ a b i j. u i j *ℤ (x a b *ℤ shifted L L second k i a j b))
        ∙ sum2_cong K K _ _ met
        ∙ sum2_swap K K L L (λ i j p q. u i j *ℤ (cell L L second k p q *ℤ x (p + i) (q + j)))
        ∙ sum2_cong L L _ _ (λ p q _ _.
        sum2_cong K K _ _ (λ i j _ _. first_two (u i j) (cell L L second k p q) (x (p + i) (q + j)))
        ∙ sum2_mul K K (cell L L second k p q) (λ i j. u i j *ℤ x (p + i) (q + j)))
      where
        -- the places that one weight of the first kernel meets
        met : (i j : ℕ) → i < K → j < K → sum2 side side (λ a b. u i j *ℤ (x a b *ℤ shifted L L second k i a j b))
            ≡ sum2 L L (λ p q. u i j *ℤ (cell L L second k p q *ℤ x (p + i) (q + j)))
        met i j l₁ l₂ =
            let exchanged = exchange_product (adding i L side (omega arith)) (adding j L side (omega arith)) x (cell L L second k) in
            sum2_mul side side (u i j) (λ a b. x a b *ℤ shifted L L second k i a j b)
            ∙ ap (λ (z : ℤ). u i j *ℤ z) exchanged
            ∙ sym (sum2_mul L L (u i j) (λ p q. cell L L second k p q *ℤ x (p + i) (q + j)))

  -- ---- all channels

  -- the sizes and letters of `joined_weight`; M output channels, a map of H by W
  module _ (C N M H W : ℕ) (map first second : List ℤ) where
    -- the rows and columns of the first layer's outputs
    abbrev E : ℕ
    E = conv_size H K 1 0

    abbrev F : ℕ
    F = conv_size W K 1 0

    abbrev weights : (k a b : ℕ) → ℤ
    weights k a b = joined_weight C N K L first second (k / C) (k % C) a b

    abbrev joined : List ℤ
    joined = stacked (M * C) side side weights

    abbrev middle : List ℤ
    middle = stacked N E F (conv C H W K 1 0 map first)

    pub conv_joined : 0 < K → 0 < L → (m e f : ℕ) → m < M → e + side ≤ H → f + side ≤ W
        → conv C H W side 1 0 map joined m e f ≡ conv N E F L 1 0 middle second m e f
    unfolding conv joined_weight
    conv_joined some more m e f channel rows columns =
        sum_cong integers C _ _ (λ c l. of_channel c l) ∙ sum_swap integers C N (λ c n. both c n) ∙ sum_cong integers N _ _ (λ n l. of_middle n l)
      where
        -- the map under the window of output (e, f)
        x : (c a b : ℕ) → ℤ
        x c a b = shifted H W map c 0 (e * 1 + a) 0 (f * 1 + b)

        weight : (c n a b : ℕ) → ℤ
        weight c n a b = sum2 K K (λ i j. cell K K first (n * C + c) i j *ℤ shifted L L second (m * N + n) i a j b)

        -- what map channel c gives to the first layer's output (e + p, f + q) of channel n
        window : (c n p q : ℕ) → ℤ
        window c n p q = sum2 K K (λ i j. cell K K first (n * C + c) i j *ℤ x c (p + i) (q + j))

        both : (c n : ℕ) → ℤ
        both c n = sum2 L L (λ p q. cell L L second (m * N + n) p q *ℤ window c n p q)

        of_channel : (c : ℕ) → c < C
            → sum2 side side (λ a b. cell side side joined (m * C + c) a b *ℤ x c a b) ≡ sum_z N (both c)
        of_channel c l =
            sum2_cong side side _ _ (λ a b i j.
            ap (λ (z : ℤ). z *ℤ x c a b) (kernel_cell a b i j) ∙ sym (sum_z_mul_right N (λ n. weight c n a b) (x c a b)))
            ∙ sym (sum2-inside N side side (λ n a b. weight c n a b *ℤ x c a b))
            ∙ sum_cong integers N _ _ (λ n k. plane_joined (cell K K first (n * C + c)) second (m * N + n) (x c))
          where
            kernel_cell : (a b : ℕ) → a < side → b < side → cell side side joined (m * C + c) a b ≡ sum_z N (λ n. weight c n a b)
            kernel_cell a b i j =
                cell-stacked (M * C) side side weights (m * C + c) a b (digits_lt channel l) i j ∙ rw (digits_div m l, digits_mod m l)

        of_middle : (n : ℕ) → n < N → sum_z C (λ c. both c n)
            ≡ sum2 L L (λ p q. cell L L second (m * N + n) p q *ℤ shifted E F middle n 0 (e * 1 + p) 0 (f * 1 + q))
        of_middle n l =
            sum2-inside C L L (λ c p q. cell L L second (m * N + n) p q *ℤ window c n p q)
            ∙ sum2_cong L L _ _ (λ p q i j.
            sum_z_mul C (cell L L second (m * N + n) p q) (λ c. window c n p q)
            ∙ ap (λ (z : ℤ). cell L L second (m * N + n) p q *ℤ z) (sym (middle_cell p q i j)))
          where
            middle_cell : (p q : ℕ) → p < L → q < L
                → shifted E F middle n 0 (e * 1 + p) 0 (f * 1 + q) ≡ sum_z C (λ c. window c n p q)
            middle_cell p q i j =
                let row : e * 1 + p < E = (window_fits H K 1 0 (e * 1 + p) (omega arith) (omega arith)).1 (omega arith) in
                let column : f * 1 + q < F = (window_fits W K 1 0 (f * 1 + q) (omega arith) (omega arith)).1 (omega arith) in
                shifted-inside E F middle n (e * 1 + p) (f * 1 + q) row column
                ∙ cell-stacked N E F (conv C H W K 1 0 map first) n (e * 1 + p) (f * 1 + q) l row column
                ∙ sum_cong integers C _ _ (λ c _. sum2_cong K K _ _ (λ a b _ _.
                let down : (e * 1 + p) * 1 + a ≡ e * 1 + (p + a) = omega arith in
                let across : (f * 1 + q) * 1 + b ≡ f * 1 + (q + b) = omega arith in
                ap₂ (λ (u v : ℕ). cell K K first (n * C + c) a b *ℤ shifted H W map c 0 u 0 v) down across))
