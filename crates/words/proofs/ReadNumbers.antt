-- The number of a word is read from the left, byte after byte: the value so far and the bytes left decide. It rests on the definitions alone.
use Rattle.std.proofs.Common.{◌≡◌, refl, sym, ◌∙◌, Bool, true, false, ◌&&◌, List, [], ◌∷◌, ℕ, suc, ◌+◌, ◌*◌, ◌-◌, ◌≤◌, ◌<◌, length, drop, get_or, arith, add-one}
use mathlib.Core.Bool.{and-false, false≢true}
use lib.Dec.{leb}
use lib.ListN.{drop_of_length-le}
use lib.Seq.{drop-cons}
use borrow.Author.Tests.{le-leb, lt-leb}
use Rattle.base.specs.Rules.{inside}
use Rattle.words.specs.Words.{all_digits, value_from, whole_value, is_figure}

-- a value grows with each digit
value_grows : (n : ℕ) (word : List ℕ) → n ≤ value_from n word
value_grows n [] = omega arith
value_grows n (byte ∷ word) = omega (arith, value_grows (n * 10 + (byte - 48)) word)

-- a word whose first bytes made `n`, of which `rest` is left, is a number to 65,535
abbrev pub figure_rest : (n : ℕ) → (rest : List ℕ) → Bool
figure_rest n rest = all_digits rest && leb (value_from n rest) 65535

-- what is left to read decides of the word
pub record Left (word : List ℕ) (i n : ℕ) : Type 0 where
  pub decides : figure_rest n (drop i word) ≡ is_figure word
  pub value : value_from n (drop i word) ≡ whole_value word

pub left_all : (word : List ℕ) → 0 < length word → Left word 0 0
unfolding is_figure whole_value
left_all [] l = absurd (omega arith)
left_all (byte ∷ word) l = record { decides = refl; value = refl }

-- an empty word is no number
pub no_figure : (word : List ℕ) → length word ≡ 0 → is_figure word ≡ true → ⊥
unfolding is_figure
no_figure [] e f = false≢true f
no_figure (byte ∷ word) e f = absurd (omega arith)

-- all bytes were read
pub left_none : (word : List ℕ) (i n : ℕ) → length word ≤ i → n ≤ 65535 → Left word i n → (is_figure word ≡ true) × (n ≡ whole_value word)
left_none word i n l h left = (
  sym (rw (drop_of_length-le word l, le-leb n 65535 h) at left.decides),
  rw (drop_of_length-le word l) at left.value,
)

module _ (word : List ℕ) (i n : ℕ) (l : i < length word) (left : Left word i n) where
  -- the byte at i is no digit
  pub left_stops : inside 48 57 (get_or word i 0) ≡ false → is_figure word ≡ true → ⊥
  left_stops e f = false≢true (rw (drop-cons word i 0 l, e) at left.decides ∙ f)

  -- it is one
  module _ (e : inside 48 57 (get_or word i 0) ≡ true) where
    pub left_digit : Left word (i + 1) (n * 10 + (get_or word i 0 - 48))
    left_digit = rw (add-one i) (record {
      decides = rw (drop-cons word i 0 l, e) at left.decides;
      value = rw (drop-cons word i 0 l) at left.value;
    })

    -- which makes the number too large
    pub left_large : 65535 < n * 10 + (get_or word i 0 - 48) → is_figure word ≡ true → ⊥
    left_large h f =
        let more : n * 10 + (get_or word i 0 - 48) ≤ value_from n (drop i word) =
        rw (drop-cons word i 0 l) (value_grows (n * 10 + (get_or word i 0 - 48)) (drop (suc i) word)) in
        let large : 65535 < value_from n (drop i word) = omega arith in
        let no : figure_rest n (drop i word) ≡ false = rw (lt-leb _ _ large) (and-false _) in
        false≢true (sym no ∙ left.decides ∙ f)
