-- The product law: CONV of x against y is x against TCONV of y, where both have the same kernel, stride and padding. It is the exchange
-- of WindowLaws in each pair of planes, and a change of the order of the sums.
use Rattle.std.specs.Prelude.{◌≡◌, List, ℕ, ◌+◌, ◌*◌, ℤ, ◌*ℤ◌}
use Rattle.std.proofs.Common.{sym, ap, ◌∙◌, arith}
use Rattle.algebra.specs.Planes.{cell}
use Rattle.algebra.specs.SumLaws.{integers, sum_cong}
use Rattle.algebra.specs.Integer.{difference_eq, every₃, ring}
use Rattle.algebra.specs.TripleSums.{sum3, sum3_cong, sum3_mul, sum3_mul_right, sum3_swap}
use Rattle.layer.specs.Direct.{shifted, conv, tconv, product_sum}
use Rattle.layer.specs.WindowLaws.{exchange_product, window}

-- CONV as a sum over the places of the map
conv_over_map : (C H W K S P : ℕ) (x w : List ℤ) (m e f : ℕ)
    → conv C H W K S P x w m e f ≡ sum3 C H W (λ c i j. cell H W x c i j *ℤ shifted K K w (m * C + c) (e * S) (i + P) (f * S) (j + P))
unfolding conv
conv_over_map C H W K S P x w m e f = sum_cong integers C _ _ (λ c l.
    exchange_product (window K H (e * S) P) (window K W (f * S) P) (cell K K w (m * C + c)) (cell H W x c))

regroup : (x w y : ℤ) → x *ℤ w *ℤ y ≡ x *ℤ (y *ℤ w)
regroup = every₃ (λ x w y. x *ℤ w *ℤ y ≡ x *ℤ (y *ℤ w)) (λ a b c d e f. simp ring (difference_eq _ _ _ _ (omega arith)))

-- CONV takes C channels of H by W to M channels of E by F, and TCONV M channels of E by F to C channels of H by W
pub product_law : (C M H W E F K S P : ℕ) (x y w : List ℤ)
    → product_sum M E F (conv C H W K S P x w) (cell E F y) ≡ product_sum C H W (cell H W x) (tconv M C E F K S P y w)
unfolding product_sum tconv
product_law C M H W E F K S P x y w =
    sum3_cong M E F _ _ (λ m e f _ _ _. of_output m e f)
    ∙ sum3_swap M E F C H W term
    ∙ sum3_cong C H W _ _ (λ c i j _ _ _. of_place c i j)
  where
    -- what output (m, e, f) of CONV takes of place (c, i, j) of its map
    weight : (m e f c i j : ℕ) → ℤ
    weight m e f c i j = shifted K K w (m * C + c) (e * S) (i + P) (f * S) (j + P)

    term : (m e f c i j : ℕ) → ℤ
    term m e f c i j = cell H W x c i j *ℤ weight m e f c i j *ℤ cell E F y m e f

    of_output : (m e f : ℕ) → conv C H W K S P x w m e f *ℤ cell E F y m e f ≡ sum3 C H W (term m e f)
    of_output m e f =
        ap (λ z. z *ℤ cell E F y m e f) (conv_over_map C H W K S P x w m e f)
        ∙ sym (sum3_mul_right C H W (λ c i j. cell H W x c i j *ℤ weight m e f c i j) (cell E F y m e f))

    of_place : (c i j : ℕ)
        → sum3 M E F (λ m e f. term m e f c i j) ≡ cell H W x c i j *ℤ sum3 M E F (λ m e f. cell E F y m e f *ℤ weight m e f c i j)
    of_place c i j =
        sum3_cong M E F _ _ (λ m e f _ _ _. regroup (cell H W x c i j) (weight m e f c i j) (cell E F y m e f))
        ∙ sum3_mul M E F (cell H W x c i j) (λ m e f. cell E F y m e f *ℤ weight m e f c i j)
