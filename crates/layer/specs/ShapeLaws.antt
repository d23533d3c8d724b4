-- What the sizes of the full output say: E of CONV counts the windows that fit, and TCONV leads back to the size of CONV's map.
use Rattle.std.specs.Prelude.{◌≡◌, ◌↔◌, ℕ, ◌+◌, ◌*◌, ◌-◌, ◌/◌, ◌%◌, ◌<◌, ◌≤◌}
use Rattle.std.proofs.Common.{div-add-mod', le-div_iff_mul-le, arith}
use Rattle.layer.specs.Shape.{conv_size, tconv_size}

-- the window of output e starts at eS and ends within H + 2P
pub window_fits : (H K S P e : ℕ) → K ≤ H + 2 * P → 0 < S → (e < conv_size H K S P) ↔ (e * S + K ≤ H + 2 * P)
unfolding conv_size
window_fits H K S P e k s =
    let fits : (e ≤ (H + 2 * P - K) / S) ↔ (e * S ≤ H + 2 * P - K) = le-div_iff_mul-le s in
    (λ l. omega (arith, fits.0 (omega arith)), λ h. omega (arith, fits.1 (omega arith)))

-- with the remainder that the stride leaves added, TCONV's output has the size of CONV's map
pub same_shape : (H K S P : ℕ) → K ≤ H + 2 * P → tconv_size (conv_size H K S P) K S P ((H + 2 * P - K) % S) ≡ H
unfolding conv_size tconv_size
same_shape H K S P k = go ((H + 2 * P - K) / S) ((H + 2 * P - K) % S) (div-add-mod' (H + 2 * P - K) S)
  where
    go : (q r : ℕ) → q * S + r ≡ H + 2 * P - K → (q + 1 - 1) * S + K + r - 2 * P ≡ H
    go q r d =
        let last : q + 1 - 1 ≡ q = omega arith in
        rw last (omega arith)
