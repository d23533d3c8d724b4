-- What the words of a header, and those of map and kernel, stand for, word by word.
use Rattle.std.specs.Prelude.{◌≡◌, refl, List, [], ◌∷◌, map, ℕ, ℤ}
use Rattle.std.proofs.Common.{ap}
use Rattle.words.specs.Words.{whole_value, signed_value, figures_of, values_of}

pub figures_map : (words : List (List ℕ)) → map whole_value words ≡ figures_of words
figures_map [] = refl
figures_map (word ∷ words) = ap (λ (ns : List ℕ). whole_value word ∷ ns) (figures_map words)

pub values_map : (words : List (List ℕ)) → map signed_value words ≡ values_of words
values_map [] = refl
values_map (word ∷ words) = ap (λ (zs : List ℤ). signed_value word ∷ zs) (values_map words)
