-- The sixteen numbers are a part of the row, place by place.
use mathlib.Core.Path.{◌∙◌}
use Prim.Native.Nat.{◌*◌}
use native.Mathlib.Omega.{arith}
use lib.ListN.{drop, length-take, length-drop}
use Rattle.std.proofs.lemmas.List.{get_or-take, get_or-drop}
use Rattle.algebra.specs.PlacesLaws.{table_of}
use Rattle.steps.specs.Steps.{number_at}
use Rattle.steps.proofs.step.layer_numbers.Goals as goal

pub returns : goal.returns
returns c =
    let a = c.args in
    c.copy_from_slice.ensures.after
    ∙ table_of 0 16 (number_at a.steps.now a.k) _ (simp (length-take, length-drop) (omega arith))
    (λ i l. get_or-take _ (drop (18 * a.k) a.steps.now) i 0 (omega arith) ∙ get_or-drop (18 * a.k) a.steps.now i 0)
