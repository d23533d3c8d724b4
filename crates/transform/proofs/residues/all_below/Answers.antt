-- `all` answers what `all_below` does, word after word.
use mathlib.Core.Path.{◌≡◌, refl, ap, ◌∙◌}
use mathlib.Core.List.{List, [], ◌∷◌}
use mathlib.Core.Bool.{◌&&◌}
use Prim.Native.Nat.{ℕ}
use lib.Dec.{ltb}
use borrow.Author.Rules.{rules}
use borrow.Author.Tests.{tests}
use Rattle.std.specs.List.{list_all}
use Rattle.std.proofs.lemmas.Iterator.{YieldsList-from_slice}
use Rattle.std.proofs.lemmas.Iterator.Search.{all_from_yields_List}
use Rattle.transform.specs.Answer.{all_below}
use Rattle.transform.proofs.residues.all_below.Goals as goal

each : (m : ℕ) (words : List ℕ) → list_all (λ word. ltb word m) words ≡ all_below m words
each m [] = refl
each m (word ∷ words) = ap (λ b. ltb word m && b) (each m words)

pub returns : goal.returns
returns c =
    all_from_yields_List (λ word. ltb word c.args.m) _ _ _ c.all.ensures.ran (YieldsList-from_slice c.args.words.now c.iter.ensures.rest) (λ word b f called. search (rules, tests))
    ∙ each c.args.m c.args.words.now
