-- How `widen` moves words: one more word of a row, one more row, and all of them with 0 after them. It rests on the laws of `Written`.
use mathlib.Core.Path.{◌≡◌, sym, ap, ◌∙◌}
use mathlib.Core.Logic.{◌⊎◌, inl, inr}
use mathlib.Core.List.{List}
use Prim.Native.Nat.{ℕ, ◌+◌, ◌-◌, ◌*◌, ◌/◌, ◌%◌, ◌<◌, ◌≤◌}
use native.Mathlib.Nat.{mul_comm, mul-le-mul_left, mul-le-mul_right}
use native.Mathlib.Decide.{dec_lt}
use native.Mathlib.Omega.{arith}
use lib.Arith.{digits_lt}
use lib.ListN.{length, get_or, set}
use borrow.Rule.Slice.PartMut.{put_mid}
use Rattle.algebra.specs.Places.{Written, Run}
use Rattle.algebra.specs.PlacesLaws.{written_as, written_again, written_longer, get_d_put_mid, get_d_put_mid_before}
use Rattle.passes.specs.OrderLaws.{place_row, place_column}
use Rattle.spectrum.specs.Corner.{corner_start, transposed_word, Widened}

-- k rows of n words end where the n rows of k words begin, or before
pub front_le : (n k : ℕ) → 2 * k ≤ n → k * n ≤ corner_start n k
front_le n k small =
    let twice : 2 * k * n ≤ n * n = mul-le-mul_right n small in
    omega (arith, mul_comm k n)

-- n rows of k words are no more than a tile
pub corner-inside : (n k : ℕ) → 2 * k ≤ n → n * k ≤ n * n
corner-inside n k small = mul-le-mul_left n (omega arith)

-- row r, column c at the front takes row c, column r of the narrow rows
transposed_word_lem : {n : ℕ} (k : ℕ) (xs : List ℕ) (r c : ℕ) → c < n → transposed_word n k xs (r * n + c) ≡ get_or xs (corner_start n k + (c * k + r)) 0
transposed_word_lem k xs r c l = rw (place_row r c l, place_column r c l)

-- one more word of a row
pub widen_step : (n k r c : ℕ) {from : ℕ} {xs ys : List ℕ} → length xs ≡ n * n → 2 * k ≤ n → r < k → c < n → from ≡ corner_start n k + (c * k + r)
    → Written 0 (Run (r * n) c) (transposed_word n k xs) xs ys
    → Written 0 (Run (r * n) (c + 1)) (transposed_word n k xs) xs (set ys (r * n + c) (get_or ys from 0))
widen_step n k r c {from} {xs} {ys} size small lr lc is w =
    let here : r * n + c < k * n = digits_lt lr lc in
    let front = front_le n k small in
    written_longer (r * n) c (get_or ys from 0) (omega (arith, front)) w
    (w.kept from (λ h. omega (arith, front)) ∙ ap (λ (p : ℕ). get_or xs p 0) is ∙ sym (transposed_word_lem k xs r c lc))

-- one more row
pub widen_next : (n k r : ℕ) {xs ys zs : List ℕ} → 2 * k ≤ n → r ≤ k → Written 0 (Run 0 (r * n)) (transposed_word n k xs) xs ys
    → Written 0 (Run (r * n) n) (transposed_word n k ys) ys zs → Written 0 (Run 0 ((r + 1) * n)) (transposed_word n k xs) xs zs
widen_next n k r {xs} {ys} {zs} small le rows row =
    written_again rows (written_as row (λ p l h. h) (λ p h. h) (λ p l h. rows.kept (place p) (λ q. apart (p % n * k + p / n) q.1)))
    (λ p l h. go p h (dec_lt p (r * n))) (λ p h. (h.0, omega (arith, next))) (λ p h. (omega arith, omega (arith, next)))
  where
    place : ℕ → ℕ
    place p = corner_start n k + (p % n * k + p / n)

    next : (r + 1) * n ≡ r * n + n
    next = omega arith

    apart : (x : ℕ) → corner_start n k + x < 0 + r * n → ⊥
    apart x l = let inside : r * n ≤ k * n = mul-le-mul_right n le in omega (arith, front_le n k small)

    go : (p : ℕ) → Run 0 ((r + 1) * n) p → Dec (p < r * n) → (Run 0 (r * n) p × (Run (r * n) n p → ⊥)) ⊎ Run (r * n) n p
    go p h (yes l) = inl ((h.0, omega arith), λ q. omega arith)
    go p h (no l) = inr (omega arith, omega (arith, next))

-- all rows, and 0 after them
pub widened : (n k s : ℕ) {xs ys : List ℕ} (fs : List ℕ) → k ≤ n → length xs ≡ n * n → k * n + s ≡ n * n
    → Written 0 (Run 0 (k * n)) (transposed_word n k xs) xs ys → length fs ≡ s → ((i : ℕ) → i < s → get_or fs i 0 ≡ 0)
    → Widened n k xs (put_mid (k * n) s ys fs)
widened n k s {xs} {ys} fs le size whole rows long none = record {
  transposed = λ r c lr lc.
      let here : r * n + c < k * n = digits_lt lr lc in
      get_d_put_mid_before 0 ys fs (k * n) s inside long (r * n + c) here
      ∙ rows.here (r * n + c) (omega (arith, inside, rows.same_length)) (omega arith, omega arith) ∙ transposed_word_lem k xs r c lc;
  empty = λ i lo hi.
      let e : i ≡ k * n + (i - k * n) = omega arith in
      ap (λ (p : ℕ). get_or (put_mid (k * n) s ys fs) p 0) e
      ∙ get_d_put_mid 0 ys fs (k * n) s inside long (i - k * n) (omega arith) ∙ none (i - k * n) (omega arith);
}
  where
    inside : k * n + s ≤ length ys
    inside = omega (arith, rows.same_length)
