-- Scratch during a call: the parts change its first words only, and once these are cleared it is `cleared`. It rests on the laws of writes.
use mathlib.Core.Path.{◌≡◌, refl, ◌∙◌}
use mathlib.Core.Bool.{Bool, true, false, cond}
use mathlib.Core.List.{List}
use Prim.Native.Nat.{ℕ, ◌-◌, ◌≤◌, ◌<◌}
use native.Mathlib.Omega.{arith}
use lib.Dec.{ltb}
use lib.ListN.{length, get_or}
use borrow.Author.Tests.{ltb-true, ltb-false}
use Rattle.algebra.specs.Places.{Written, Run, Changed}
use Rattle.algebra.specs.PlacesLaws.{table_of}
use Rattle.engine.specs.Call.{cleared}

pub changed_cleared : {xs ys zs : List ℕ} (count : ℕ) → count ≤ length xs → Changed 0 0 count xs ys
    → Written 0 (Run 0 (count - 0)) (λ _. 0) ys zs → zs ≡ cleared count xs
unfolding cleared
changed_cleared {xs} {ys} {zs} count room used none =
    table_of 0 (length xs) (λ i. cond (ltb i count) 0 (get_or xs i 0)) zs (none.same_length ∙ used.same_length) (λ i below. by_test i (ltb i count) refl)
  where
    by_test : (i : ℕ) (t : Bool) → ltb i count ≡ t → get_or zs i 0 ≡ cond t 0 (get_or xs i 0)
    by_test i true e =
        let low : i < count = ltb-true _ _ e in none.here i (omega (arith, used.same_length)) (omega arith, omega arith)
    by_test i false e =
        let high : count ≤ i = ltb-false _ _ e in none.kept i (λ h. omega arith) ∙ used.after i high
