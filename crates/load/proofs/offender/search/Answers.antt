use mathlib.Core.Path.{◌≡◌, refl, sym, ap, ◌∙◌}
use Prim.Native.Nat.{◌<◌}
use native.Mathlib.Omega.{arith}
use borrow.Author.Rules.{sfits_of}
use lib.IntN.{ℤ, pos}
use lib.ListN.{length, get_or}
use mir.Facts.{to_z-of_z}
use mir.Syntax.{w16}
use mir.Val.{to_z, of_z}
use Rattle.load.specs.Offender.{side_of}
use Rattle.load.specs.OffenderLaws.{side_above}
use Rattle.load.proofs.Searches.{none_searched, value_searched, row_searched, channel_searched, all_searched, value_found, place_in}
use Rattle.load.proofs.offender.search.Goals as goal
use Rattle.load.proofs.offender.search.Goals.{After-side_of, In-loop-column}

-- a turn of the innermost loop: the place that is read is one of the map
module _ (c : In-loop-column) where
  here : c.loop-column.i < length c.args.map.now
  here = place_in c.channels-test.true c.loop-row-test.true c.loop-column-test.true c.requires c.loop-column.invariant

-- the value that is read is what its bits say
module _ (c : After-side_of) where
  abbrev value : ℤ
  value = get_or c.args.map.now c.loop-column.i (pos 0)

  read : side_of c.args.layer.peak (to_z w16 (of_z w16 value)) ≡ side_of c.args.layer.peak value
  read = ap (side_of c.args.layer.peak) (to_z-of_z {w = w16} (search sfits_of))

pub channels-init : goal.channels-init
channels-init c = none_searched refl

pub loop-row-init : goal.loop-row-init
loop-row-init c = c.channels.invariant

pub loop-column-init : goal.loop-column-init
loop-column-init c = c.loop-row.invariant

pub bounds-map-i : goal.bounds-map-i
bounds-map-i c = here c

pub overflow_add-i : goal.overflow_add-i
overflow_add-i c = omega (arith, here (goal.at.overflow_add-i c).In-loop-column)

pub loop-column-preserved : goal.loop-column-preserved
loop-column-preserved c = value_searched c.loop-column.invariant (sym (c.in_default.ensures ∙ read (goal.at.loop-column-preserved c).After-side_of))

pub loop-row-preserved : goal.loop-row-preserved
loop-row-preserved c = row_searched (omega arith) c.loop-column.invariant

pub channels-preserved : goal.channels-preserved
channels-preserved c = channel_searched (omega arith) c.loop-row.invariant

-- all channels are passed
pub returns-after-channels : goal.returns-after-channels
returns-after-channels c =
    all_searched (omega arith) c.requires c.channels.invariant

-- a value is found
pub returns-in-Some : goal.returns-in-Some
returns-in-Some c =
    value_found c.loop-row-test.true c.loop-column-test.true (here (goal.at.returns-in-Some c).In-loop-column) c.loop-column.invariant (c.number.ensures ∙ c.in-Some.ensures ∙ read (goal.at.returns-in-Some c).After-side_of)
    (λ e. omega (arith, c.number.ensures, side_above c.in-Some.side))
