-- What `position` finds, or the length.
use Rattle.std.proofs.Common.{◌∙◌, ℕ, Bool, not, arith, rules, tests}
use Rattle.std.proofs.lemmas.Iterator.{YieldsList-from_slice}
use Rattle.std.proofs.lemmas.Iterator.Search.{position_from_yields_List}
use Rattle.words.specs.Words.{is_separator}
use Rattle.words.proofs.FirstPlaces.{prefix_within, found_or}
use Rattle.words.proofs.separators.Goals as goal

abbrev other : ℕ → Bool
other byte = not (is_separator byte)

pub returns : goal.returns
returns c =
    let text = c.args.text.now in
    let found =
    position_from_yields_List other _ _ c.position.result c.position.ensures.ran (YieldsList-from_slice text cc)
    (λ x b q k. search (rules, tests))
    in
    let value = c.unwrap_or.ensures ∙ found_or other text found in
    record { value = value; bound = omega (arith, value, prefix_within (λ b. not (other b)) text) }
