-- The figures of the call one by one, and the values after them.
use mathlib.Core.Path.{refl, ap}
use mathlib.Core.List.{List, [], ◌∷◌}
use Prim.Native.Nat.{ℕ}
use lib.ListN.{get_or}
use Rattle.wemsteky.proofs.report_preview.Goals as goal

pub returns : goal.returns
returns c =
    record {
      value = refl;
      figures_after = ap
          (λ (f : List ℕ).
          get_or f 0 0 ∷ get_or f 1 0 ∷ get_or f 2 0 ∷ get_or f 3 0 ∷ get_or f 4 0 ∷ get_or f 5 0 ∷ get_or f 6 0 ∷ c.args.preview.values ∷ [])
          c.seven_figures-call.ensures;
    }
