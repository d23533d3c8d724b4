-- Planes in a row, read back: a cell of them is the value at its plane, row and column, and these values are all there is to them.
use Rattle.std.specs.Prelude.{◌≡◌, ℕ, ◌+◌, ◌*◌, ◌/◌, ◌%◌, ◌<◌, ℤ, pos}
use Rattle.std.proofs.Common.{sym, ap, ◌∙◌, mod-lt, div-add-mod', div-lt_iff_lt-mul, mul-le-mul, arith}
use Rattle.std.proofs.Math.Arith.{digits_lt, digits_div, digits_mod}
use Rattle.algebra.specs.Planes.{cell, stacked_at, stacked}
use Rattle.algebra.specs.PlacesLaws.{get_d_table, table_same}

-- a flat place from its plane, row and column
flat : (A B k i j : ℕ) → (k * A + i) * B + j ≡ k * (A * B) + (i * B + j)
flat A B k i j = omega arith

pub stacked_at_lem : {Value : Type 0} (A B : ℕ) (value : ℕ → ℕ → ℕ → Value) (k i j : ℕ) → i < A → j < B → stacked_at A B value ((k * A + i) * B + j) ≡ value k i j
stacked_at_lem A B value k i j row column =
    let inner : i * B + j < A * B = digits_lt row column in
    rw (flat A B k i j, digits_div k inner, digits_mod k inner, digits_div i column, digits_mod i column)

-- the plane, row and column of a flat place
pub stacked_place : {Value : Type 0} (A B : ℕ) (value : ℕ → ℕ → ℕ → Value) (p : ℕ) → 0 < A → 0 < B
    → stacked_at A B value p ≡ value (p / B / A) (p / B % A) (p % B)
stacked_place A B value p some more =
    ap (stacked_at A B value) (sym (ap (λ (q : ℕ). q * B + p % B) (div-add-mod' (p / B) A) ∙ div-add-mod' p B))
    ∙ stacked_at_lem A B value (p / B / A) (p / B % A) (p % B) (mod-lt (p / B) some) (mod-lt p more)

pub cell-stacked : (planes A B : ℕ) (value : ℕ → ℕ → ℕ → ℤ) (k i j : ℕ) → k < planes → i < A → j < B
    → cell A B (stacked planes A B value) k i j ≡ value k i j
cell-stacked planes A B value k i j plane row column =
    get_d_table (pos 0) (planes * (A * B)) _ ((k * A + i) * B + j) (rw (flat A B k i j) (digits_lt plane (digits_lt row column)))
    ∙ stacked_at_lem A B value k i j row column

-- planes are the same where they are at every row and column
pub stacked_same : (planes A B : ℕ) {u v : ℕ → ℕ → ℕ → ℤ} → 0 < A → 0 < B
    → ((k i j : ℕ) → k < planes → i < A → j < B → u k i j ≡ v k i j) → stacked planes A B u ≡ stacked planes A B v
stacked_same planes A B some more same =
    let area : 0 < A * B = mul-le-mul {n₁ = 1} {m₁ = 1} some more in
    table_same (planes * (A * B)) (λ p l.
    same _ _ _ ((div-lt_iff_lt-mul area).1 l) ((div-lt_iff_lt-mul more).1 (mod-lt p area)) (mod-lt (p % (A * B)) more))
