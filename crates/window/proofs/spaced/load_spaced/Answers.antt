use mathlib.Core.Path.{◌≡◌}
use native.Mathlib.Nat.{mul-div_cancel}
use native.Mathlib.Omega.{arith}
use borrow.Author.Rules.{sfits_of}
use lib.IntN.{pos}
use lib.ListN.{get_or}
use mir.Facts.{to_z-of_z}
use mir.Syntax.{w16}
use mir.Val.{to_z, of_z}
use Rattle.layer.specs.WindowLaws.{spread_is}
use Rattle.window.proofs.Loads.{loaded_none, loaded_apart}
use Rattle.window.proofs.spaced.load_spaced.Given.{Over}
use Rattle.window.proofs.spaced.load_spaced.Goals as goal

pub loop-i-init : goal.loop-i-init
loop-i-init g c = loaded_none (λ p t. omega (arith, spread_is _ _ _ p t))

-- the bits of the value say it
bits : (g : Over) (c : goal.After-word g) → let v = get_or c.args.values.now c.loop-i.i (pos 0) in to_z w16 (of_z w16 v) ≡ v
bits g c = to_z-of_z {w = w16} (search sfits_of)

pub loop-i-preserved : goal.loop-i-preserved
loop-i-preserved g c =
    let some = c.requires.spacing_nonzero.0 in
    let place = c.requires.by_index c.loop-i.i c.loop-i-test.true in
    let made = rw (bits g c) at c.word.ensures in
    loaded_apart g.row.SPACING c.loop-i.i c.word.result some place c.loop-i.invariant (rw (mul-div_cancel c.loop-i.i some) made)
