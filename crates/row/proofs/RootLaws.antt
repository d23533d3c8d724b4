-- What holds at the root of a row: it is one of length 256 modulo 65,537. So a product added word by word adds a circular convolution, and the pair
-- at the root, stated on residues, is one: each undoes the other. They rest on what fermat calls a root and on its laws of a transform at one.
use Rattle.std.specs.Prelude.{◌≡◌, refl, List, ℕ, ◌+◌, ◌*◌, ◌^◌, ◌<◌, get_or}
use Rattle.std.proofs.Common.{sym, ap, arith}
use Rattle.algebra.specs.Congruence.{Cong}
use Rattle.algebra.specs.CongruenceLaws.{c_eq, c_sym, ◌⨟◌, c_via, c_add, c_mul}
use Rattle.fermat.specs.Transform.{power_sum, transform_at, inverse_at, circular}
use Rattle.fermat.specs.TransformLaws.{power_sum_add, undo, redo}
use Rattle.fermat.specs.ConvolutionLaws.{circular_power_sum}
use Rattle.fermat.specs.RootLaws.{Root, root_period}
use Rattle.spectrum.specs.Product.{Accumulated}
use Rattle.row.specs.Powers.{row_root}
use Rattle.row.specs.Row.{frequency_of, RowSpectrum}

-- ---- the root

pub root_is : row_root ≡ 282
unfolding row_root
root_is = refl

-- 64,375 is the inverse of the root, 65,281 that of the length 256, and the root to the power 128 is −1
pub row_root_lem : Root 65537 row_root 64375 65281 7
unfolding row_root
row_root_lem = record { half_period = record { same = refl }; inverse = record { same = refl }; length = record { same = refl } }

pub root_one : Cong 65537 (row_root ^ 256) 1
root_one = root_period 7 row_root row_root_lem.half_period

-- ---- a product

-- what `accumulate` does: the sum stands first, then the two factors
pub row_accumulated : (x y z : ℕ → ℕ) {xs ys : List ℕ} → Accumulated 4 256 xs ys → RowSpectrum z 0 xs → RowSpectrum x 256 xs → RowSpectrum y 512 xs
    → RowSpectrum (λ i. z i + circular 256 x y i) 0 ys
row_accumulated x y z {xs} {ys} added fz fx fy = record { entry = here }
  where
    here : (l k : ℕ) → l < 16 → k < 16
        → Cong 65537 (get_or ys (0 + (l * 16 + k)) 0) (power_sum 256 row_root (λ i. z i + circular 256 x y i) (frequency_of k + 16 * frequency_of l))
    here l k ll lk =
        let p : ℕ = l * 16 + k in
        let f : ℕ = frequency_of k + 16 * frequency_of l in
        let e : 0 + p ≡ p = omega arith in
        let e' : 256 + (256 + p) ≡ 512 + p = omega arith in
        c_via (ap (λ (i : ℕ). get_or ys i 0) e) (added.sum p (omega arith))
        (ap (λ (i : ℕ). get_or xs p 0 + get_or xs (256 + p) 0 * get_or xs i 0) e')
        ⨟ c_add (c_via (ap (λ (i : ℕ). get_or xs i 0) (sym e)) (fz.entry l k ll lk) refl)
        (c_mul (fx.entry l k ll lk) (fy.entry l k ll lk) ⨟ c_sym (circular_power_sum 256 row_root root_one x y f))
        ⨟ c_eq (sym (power_sum_add 256 row_root z (circular 256 x y) f))

-- ---- the pair on residues: 64,375 is the inverse of the root, 65,281 that of 256

-- the inverse undoes the transform
pub row_undo : (x : ℕ → ℕ) (j : ℕ) → j < 256 → x j < 65537 → inverse_at 65537 256 64375 65281 (transform_at 65537 256 row_root x) j ≡ x j
row_undo = undo row_root_lem

-- the transform undoes the inverse
pub row_redo : (x : ℕ → ℕ) (k : ℕ) → k < 256 → x k < 65537 → transform_at 65537 256 row_root (inverse_at 65537 256 64375 65281 x) k ≡ x k
row_redo = redo row_root_lem
