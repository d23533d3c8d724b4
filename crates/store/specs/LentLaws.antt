-- A row that is lent with its words, and came back. It rests on the laws of written places.
use Rattle.std.specs.Prelude.{◌≡◌, List, ℕ, ◌+◌, ◌*◌, ◌-◌, ◌≤◌, ℤ, length, get_or, drop}
use Rattle.std.proofs.Common.{ap, ◌∙◌, zero-add, length-drop, get_or-drop, length-take-le, arith}
use borrow.Rule.Slice.PartMut.{mid_of, put_mid}
use Rattle.std.proofs.lemmas.List.{take_rest}
use Rattle.algebra.specs.PlacesLaws.{written_as, written_part}
use Rattle.spectrum.specs.Value.{less_offset}
use Rattle.store.specs.Held.{RowStorable, RowStored}

-- words that are lent from one of them on
module _ (words : List ℕ) (from : ℕ) where
  lent_word : (i : ℕ) → get_or (mid_of from (length words - from) words) i 0 ≡ get_or words (from + i) 0
  lent_word i = ap (λ (ws : List ℕ). get_or ws i 0) (take_rest words from) ∙ get_or-drop from words i 0

  lent_length : length (mid_of from (length words - from) words) ≡ length words - from
  lent_length = ap length (take_rest words from) ∙ length-drop from words

  module _ (offset step : ℕ) {count : ℕ} where
    -- what is asked of a row's words, where they are lent from the first of them on
    pub lent_storable : {n : ℕ} → n ≡ count → RowStorable offset from step count words
        → RowStorable offset 0 step n (mid_of from (length words - from) words)
    lent_storable same fit i below =
        let here = fit i (omega (arith, same)) in
        (omega (arith, lent_length, here.0), rw (lent_word (0 + i * step), zero-add (i * step)) here.1)

    -- a row that is lent with them, and came back
    pub row_lent : {at k : ℕ} {xs ys : List ℤ} → k ≡ count → at + k ≤ length xs
        → RowStored offset 0 0 step (length (mid_of at k xs)) (mid_of from (length words - from) words) (mid_of at k xs) ys
        → RowStored offset at from step count words xs (put_mid at k xs ys)
    row_lent {at} {k} {xs} same room stored =
        written_as (written_part at k room stored)
        (λ p _ h. ((h.0, omega arith), (omega arith, omega (arith, size))))
        (λ p h. (h.0.0, omega (arith, h.0)))
        (λ p _ h.
        let same : p - at - 0 ≡ p - at = omega arith in
        let there : from + (0 + (p - at - 0) * step) ≡ from + (p - at) * step = omega (arith, ap (λ (k : ℕ). k * step) same) in
        ap (less_offset offset) (lent_word (0 + (p - at - 0) * step) ∙ ap (λ (i : ℕ). get_or words i 0) there))
      where
        size : length (mid_of at k xs) ≡ k
        size = length-take-le k (drop at xs) (omega (arith, length-drop at xs))
