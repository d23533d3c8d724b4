-- `there_and_back` gives the words back: the inverse undoes the transform, on accepted and on refused words.
use mathlib.Core.Path.{ap, ◌∙◌}
use Rattle.transform.specs.Answer.{inverted}
use Rattle.transform.specs.PairLaws.{undo_transformed}
use Rattle.transform.proofs.there_and_back.Goals as goal

pub returns : goal.returns
returns c =
    (c.transform-code.ensures.0, c.inverse.ensures.1 ∙ ap (inverted _) c.transform-code.ensures.1 ∙ undo_transformed _ _)
