use mathlib.Core.Path.{◌≡◌}
use mathlib.Core.Bool.{cond}
use mathlib.Core.List.{[], ◌∷◌, ◌++◌}
use Prim.Native.Nat.{suc, ◌+◌, ◌%◌, ◌≤◌}
use native.Mathlib.Numerals.{add-one}
use native.Mathlib.Omega.{arith}
use borrow.Author.Rules.{rules}
use lib.Dec.{eqb}
use lib.IntN.{ℤ, pos}
use lib.ListN.{length, get_or, length-append}
use mir.Facts.{to_z-of_z}
use mir.Syntax.{w32}
use mir.Val.{SFits}
use Rattle.lines.specs.Lines.{signed_decimal, rows_text}
use Rattle.lines.specs.Writing.{Appended}
use Rattle.lines.specs.WritingLaws.{append_none, append_two}
use Rattle.lines.proofs.SignedDecimals.{signed_few}
use Rattle.lines.proofs.put_rows.Goals as goal
use Rattle.lines.proofs.put_rows.Goals.{After-put_entry-place}

pub loop-i-init : goal.loop-i-init
unfolding rows_text
loop-i-init c = (omega arith, append_none _ _)

pub put_entry-place-requires : goal.put_entry-place-requires
put_entry-place-requires c =
    omega (arith, c.loop-i.invariant.1.same_length, c.requires.1)

-- the value that is read, and what of it stands in the buffer
module _ (c : After-put_entry-place) where
  abbrev value : ℤ
  value = get_or c.args.values.now c.loop-i.i (pos 0)

  fits : SFits w32 value
  fits = search rules

  entered :
      let last = eqb (suc c.loop-i.i % c.args.width) 0 in
      Appended c.loop-i.place (signed_decimal value ++ (cond last 10 32 ∷ [])) c.loop-i.lines c.put_entry-place.new.lines c.put_entry-place.result
  entered = rw (to_z-of_z fits, add-one) at c.put_entry-place.ensures

  entry_few : c.put_entry-place.result ≤ c.loop-i.place + 12
  entry_few = omega (arith, simp length-append at entered.ends, signed_few value fits)

pub loop-i-preserved : goal.loop-i-preserved
unfolding rows_text
loop-i-preserved c =
    let entry = (goal.at.loop-i-preserved c).After-put_entry-place in (
      omega (arith, entry_few entry, c.loop-i.invariant.0),
      rw (add-one c.loop-i.i) (append_two c.loop-i.invariant.1 (entered entry)),
    )

pub returns : goal.returns
returns c =
    let ends : c.loop-i.i ≡ length c.args.values.now = omega arith in
    rw ends at c.loop-i.invariant.1
