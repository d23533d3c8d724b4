-- 01, "The bench program": the lines that it prints. Bytes are numbers: 10 is a newline, 32 a space, 45 a minus sign, 48 the digit 0.
use Rattle.std.specs.Prelude.{cond, List, [], ◌∷◌, ◌++◌, ℕ, zero, suc, ◌+◌, ◌/◌, ◌%◌, ltb, eqb, ℤ, pos, negsuc, get_or}

-- ---- fixed words

-- tiles
abbrev pub tiles_word : List ℕ
tiles_word = 116 ∷ 105 ∷ 108 ∷ 101 ∷ 115 ∷ []

-- refused
abbrev pub refused_word : List ℕ
refused_word = 114 ∷ 101 ∷ 102 ∷ 117 ∷ 115 ∷ 101 ∷ 100 ∷ []

-- unreadable
abbrev pub unreadable_word : List ℕ
unreadable_word = 117 ∷ 110 ∷ 114 ∷ 101 ∷ 97 ∷ 100 ∷ 97 ∷ 98 ∷ 108 ∷ 101 ∷ []

-- ---- numbers

-- the last `count` digits of n at most, without zeros before the first
abbrev pub digits_of : (count n : ℕ) → List ℕ
digits_of zero n = []
digits_of (suc count) n = cond (ltb n 10) ((48 + n) ∷ []) (digits_of count (n / 10) ++ ((48 + n % 10) ∷ []))

-- a number in base ten; it has at most n + 1 digits
unfoldable pub decimal : ℕ → List ℕ
decimal n = digits_of (suc n) n

unfoldable pub signed_decimal : ℤ → List ℕ
signed_decimal (pos n) = decimal n
signed_decimal (negsuc n) = 45 ∷ decimal (suc n)

-- ---- lines

-- a word, a number and a newline
abbrev pub numbered : (word : List ℕ) → ℕ → List ℕ
numbered word n = word ++ (32 ∷ (decimal n ++ (10 ∷ [])))

abbrev pub unreadable : List ℕ
unreadable = unreadable_word ++ (10 ∷ [])

-- the first `count` values in rows of `width`: after each a space, after the last of a row a newline
unfoldable pub rows_text : (width count : ℕ) → List ℤ → List ℕ
rows_text width zero values = []
rows_text width (suc count) values =
    rows_text width count values ++ (signed_decimal (get_or values count (pos 0)) ++ (cond (eqb (suc count % width) 0) 10 32 ∷ []))
