-- 01, "The bench program": the words of an input and the numbers that they are. Bytes are numbers: 32 is a space, 10 a newline, 45 a minus
-- sign, 48 to 57 are the digits.
use Rattle.std.specs.Prelude.{Bool, true, false, ◌&&◌, ◌||◌, cond, List, [], ◌∷◌, ◌++◌, ℕ, ◌+◌, ◌*◌, ◌-◌, leb, eqb, ℤ, pos, neg_ℤ}
use Rattle.base.specs.Rules.{inside}

-- ---- words: longest runs of bytes that are no separators

abbrev pub is_separator : ℕ → Bool
is_separator byte = eqb byte 32 || eqb byte 10

-- a word is ended, if any of it was read
abbrev pub end_word : (word : List ℕ) → (words : List (List ℕ)) → List (List ℕ)
end_word [] words = words
end_word (byte ∷ word) words = (byte ∷ word) ∷ words

-- the words of a text, of whose first one `word` was read before. Where the text is cut off, a word that touches its end is not known to
-- end there, and is none
abbrev pub words_from : (cut : Bool) → (word text : List ℕ) → List (List ℕ)
words_from cut word [] = cond cut [] (end_word word [])
words_from cut word (byte ∷ text) =
    cond (is_separator byte) (end_word word (words_from cut [] text)) (words_from cut (word ++ (byte ∷ [])) text)

unfoldable pub words_of : (cut : Bool) → List ℕ → List (List ℕ)
words_of cut text = words_from cut [] text

-- a test holds of every word
abbrev pub every_word : (List ℕ → Bool) → List (List ℕ) → Bool
every_word test [] = true
every_word test (word ∷ words) = test word && every_word test words

-- ---- numbers

abbrev pub all_digits : List ℕ → Bool
all_digits [] = true
all_digits (byte ∷ word) = inside 48 57 byte && all_digits word

-- at least one digit, and digits only
abbrev pub is_whole : List ℕ → Bool
is_whole [] = false
is_whole (byte ∷ word) = all_digits (byte ∷ word)

-- the number of digits in base ten, after `n`
abbrev pub value_from : (n : ℕ) → List ℕ → ℕ
value_from n [] = n
value_from n (byte ∷ word) = value_from (n * 10 + (byte - 48)) word

unfoldable pub whole_value : List ℕ → ℕ
whole_value word = value_from 0 word

-- a number of the header: 0 to 65,535
unfoldable pub is_figure : List ℕ → Bool
is_figure word = is_whole word && leb (whole_value word) 65535

-- a number of map or kernel: at most one minus sign, then digits; it fits 16 signed bits
unfoldable pub is_value : List ℕ → Bool
is_value [] = false
is_value (byte ∷ word) =
    cond (eqb byte 45) (is_whole word && leb (whole_value word) 32768) (is_whole (byte ∷ word) && leb (whole_value (byte ∷ word)) 32767)

unfoldable pub signed_value : List ℕ → ℤ
signed_value [] = pos 0
signed_value (byte ∷ word) = cond (eqb byte 45) (neg_ℤ (pos (whole_value word))) (pos (whole_value (byte ∷ word)))

-- what the words stand for
abbrev pub figures_of : List (List ℕ) → List ℕ
figures_of [] = []
figures_of (word ∷ words) = whole_value word ∷ figures_of words

abbrev pub values_of : List (List ℕ) → List ℤ
values_of [] = []
values_of (word ∷ words) = signed_value word ∷ values_of words
