-- What `transform` and `inverse` answer: the code of the checks 2, 18 and 19, and the words that they leave.
use Rattle.std.specs.Prelude.{◌≡◌, Bool, true, ◌&&◌, List, [], ◌∷◌, ℕ, ◌<◌, ◌≤◌, ltb, eqb, length, get_or}
use Rattle.algebra.specs.Places.{table}
use Rattle.base.specs.Rules.{Rule, rule, first_broken, inside, outcome}
use Rattle.fermat.specs.Field.{modulus, transform_length}
use Rattle.fermat.specs.Transform.{transform_in, inverse_in}

-- every word is below m
abbrev pub all_below : ℕ → List ℕ → Bool
all_below m [] = true
all_below m (word ∷ words) = ltb word m && all_below m words

-- 2: the field is 4 or 5
abbrev pub field_rule : ℕ → Rule
field_rule field = rule 2 (inside 4 5 field)

-- 18: there are N words
abbrev pub length_rule : ℕ → List ℕ → Rule
length_rule field words = rule 18 (eqb (length words) (transform_length field))

-- 19: each is a residue
abbrev pub residues_rule : ℕ → List ℕ → Rule
residues_rule field words = rule 19 (all_below (modulus field) words)

abbrev pub transform_rules : ℕ → List ℕ → List Rule
transform_rules field words = field_rule field ∷ length_rule field words ∷ residues_rule field words ∷ []

unfoldable pub transform_code : ℕ → List ℕ → ℕ
transform_code field words = first_broken (transform_rules field words)

-- an operation in a field, on N numbers given by their index
abbrev pub Operation : Type 0
Operation = ℕ → (ℕ → ℕ) → ℕ → ℕ

-- the operation on the words of a buffer
unfoldable pub row : Operation → ℕ → List ℕ → List ℕ
row operation field words = table (transform_length field) (operation field (λ n. get_or words n 0))

unfoldable pub answered : Operation → ℕ → List ℕ → List ℕ
answered operation field words = outcome (transform_code field words) (row operation field words) words

-- what `transform` leaves, and what `inverse` leaves
abbrev pub transformed : ℕ → List ℕ → List ℕ
transformed = answered transform_in

abbrev pub inverted : ℕ → List ℕ → List ℕ
inverted = answered inverse_in

-- what the code 0 says
pub record Accepted (field : ℕ) (words : List ℕ) : Type 0 where
  pub field_low : 4 ≤ field
  pub field_high : field ≤ 5
  pub same_length : length words ≡ transform_length field
  pub below : (i : ℕ) → i < length words → get_or words i 0 < modulus field
