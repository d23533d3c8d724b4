-- 01, "A layer": the direct sums of CONV and TCONV on flat lists of integers. Indices that may be negative are written as u − p with two
-- natural numbers, so that no natural number is below 0.
use Rattle.std.specs.Prelude.{Bool, ◌&&◌, cond, List, ℕ, ◌+◌, ◌*◌, ◌-◌, leb, ltb, ℤ, pos, ◌*ℤ◌}
use Rattle.algebra.specs.Planes.{cell}
use Rattle.algebra.specs.Sum.{sum_z}
use Rattle.layer.specs.declared.shape.Layer.{Layer}
use Rattle.layer.specs.Shape.{is_conv, channel_of, row_of, column_of}

-- z where the test holds, else 0
abbrev pub when : Bool → ℤ → ℤ
when test z = cond test z (pos 0)

-- u − p is from 0 to n − 1
abbrev pub within : (p n u : ℕ) → Bool
within p n u = leb p u && ltb (u - p) n

-- the value at row u − p, column v − q of plane k; 0 outside the plane
abbrev pub shifted : (A B : ℕ) → List ℤ → (k p u q v : ℕ) → ℤ
shifted A B values k p u q v = when (within p A u) (when (within q B v) (cell A B values k (u - p) (v - q)))

-- CONV at (m, e, f): the sum over c, a, b of weight [m][c][a][b] times map [c][eS + a − P][fS + b − P]
unfoldable pub conv : (C H W K S P : ℕ) (map kernel : List ℤ) (m e f : ℕ) → ℤ
conv C H W K S P map kernel m e f =
    sum_z C (λ c. sum_z K (λ a. sum_z K (λ b. cell K K kernel (m * C + c) a b *ℤ shifted H W map c P (e * S + a) P (f * S + b))))

-- TCONV at (m, i, j): the sum over c, e, f of map [c][e][f] times weight [c][m][i + P − eS][j + P − fS]
unfoldable pub tconv : (C M H W K S P : ℕ) (map kernel : List ℤ) (m i j : ℕ) → ℤ
tconv C M H W K S P map kernel m i j =
    sum_z C (λ c. sum_z H (λ e. sum_z W (λ f. cell H W map c e f *ℤ shifted K K kernel (c * M + m) (e * S) (i + P) (f * S) (j + P))))

-- the kernel's plane from map channel c to output channel m: [m][c] in CONV, [c][m] in TCONV
abbrev pub plane_of : Layer → (m c : ℕ) → ℕ
plane_of l m c = cond (is_conv l) (m * l.inputs + c) (c * l.outputs + m)

-- the full output of a layer at channel m, row i, column j
unfoldable pub full_at : Layer → (map kernel : List ℤ) (m i j : ℕ) → ℤ
full_at l map kernel m i j =
    cond (is_conv l)
    (conv l.inputs l.height l.width l.side l.stride l.padding map kernel m i j)
    (tconv l.inputs l.outputs l.height l.width l.side l.stride l.padding map kernel m i j)

-- the crop: the first output kept is row `top`, column `left` of the full output. p is a flat place of what is kept
unfoldable pub direct_at : Layer → (map kernel : List ℤ) → ℕ → ℤ
direct_at l map kernel p = full_at l map kernel (channel_of l p) (l.top + row_of l p) (l.left + column_of l p)

-- the sum of the products of two stacks of A planes of B by D
unfoldable pub product_sum : (A B D : ℕ) (u v : ℕ → ℕ → ℕ → ℤ) → ℤ
product_sum A B D u v = sum_z A (λ a. sum_z B (λ b. sum_z D (λ d. u a b d *ℤ v a b d)))
