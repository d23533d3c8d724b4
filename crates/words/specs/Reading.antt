-- What the reader promises of a text: its next word, and the words that it begins with.
use Rattle.std.specs.Prelude.{◌≡◌, Bool, true, false, ◌&&◌, List, ◌∷◌, ◌++◌, ℕ, ◌+◌, ◌<◌, leb, eqb, ℤ, length, take, drop, Option}
use Rattle.std.specs.Option.{SomeIff}
use Rattle.words.specs.Words.{words_of, every_word, whole_value, is_figure, is_value, signed_value, values_of}

-- a word of the header is read where it is a number 0 to 65,535
abbrev pub FigureRead : List ℕ → Option ℕ → Type 0
FigureRead word r = SomeIff r (is_figure word ≡ true) (whole_value word)

-- a word of map or kernel is read where it is a signed number of 16 bits
abbrev pub SignedRead : List ℕ → Option ℤ → Type 0
SignedRead word r = SomeIff r (is_value word ≡ true) (signed_value word)

-- the text holds a word, of a byte at least, and `rest` is the text after its first one
pub record NextWord (cut : Bool) (text word rest : List ℕ) : Type 0 where
  pub some : 0 < length word
  pub before : List ℕ
  pub joined : text ≡ before ++ (word ++ rest)
  pub one : words_of cut text ≡ word ∷ words_of cut rest

-- the first `count` words are there, and pass a test
abbrev pub first_pass : (List ℕ → Bool) → (count : ℕ) → List (List ℕ) → Bool
first_pass test count words = leb count (length words) && every_word test (take count words)

-- the first `count` words of a text pass a test, and `rest` is the text after them
pub record WordsRead (test : List ℕ → Bool) (cut : Bool) (text : List ℕ) (count : ℕ) (rest : List ℕ) : Type 0 where
  pub passes : first_pass test count (words_of cut text) ≡ true
  pub before : List ℕ
  pub joined : text ≡ before ++ rest
  pub after : words_of cut rest ≡ drop count (words_of cut text)

-- the first `count` words of a text do not pass a test. Fewer words do, `rest` is the text after them, and one word more does not pass, or is
-- not there
pub record WordsRefused (test : List ℕ → Bool) (cut : Bool) (text : List ℕ) (count : ℕ) (rest : List ℕ) : Type 0 where
  pub fails : first_pass test count (words_of cut text) ≡ false
  pub passed : ℕ
  pub fewer : passed < count
  pub read : WordsRead test cut text passed rest
  pub stops : first_pass test (passed + 1) (words_of cut text) ≡ false

-- the words of the body are the values of map and kernel, of those lengths
pub record BodyRead (body : List (List ℕ)) (values weights : ℕ) (map kernel : List ℤ) (r : Bool) : Type 0 where
  pub reads : r ≡ eqb (length body) (values + weights) && every_word is_value body
  pub map_read : r ≡ true → map ≡ values_of (take values body)
  pub kernel_read : r ≡ true → kernel ≡ values_of (drop values body)
