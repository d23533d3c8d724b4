use mathlib.Core.Path.{◌≡◌, sym, ap, ◌∙◌}
use Prim.Native.Nat.{ℕ, ◌+◌, ◌*◌, ◌-◌, ◌≤◌}
use native.Mathlib.Omega.{arith}
use borrow.Rule.Slice.PartMut.{mid_of}
use lib.ListN.{length, drop, length-drop}
use lib.Seq.{length-take-le}
use Rattle.algebra.specs.PlacesLaws.{part_ends}
use Rattle.fermat.specs.Field.{transform_length}
use Rattle.layer.specs.TileSizeLaws.{length_low, length_high}
use Rattle.window.proofs.WindowRows.{next_row, windowed}
use Rattle.window.proofs.load_window.Goals as goal
use Rattle.window.proofs.load_window.Goals.{In-loop-u}

pub shown_of-shown-requires : goal.shown_of-shown-requires
shown_of-shown-requires c =
    let r = c.requires.in_range.0 in
    let n = c.transform_length-n.ensures in
    (r, c.requires.in_range.3, omega (arith, n, length_low _ r), omega (arith, n, length_high _ r))

-- the row lies within the window, and has N words
module _ (c : In-loop-u) where
  fits : let n = c.transform_length-n.result in c.loop-u.u * n + n ≤ length c.args.words.now
  fits =
      let n = c.transform_length-n.result in
      let whole : n * n ≡ length c.args.words.now =
      ap (λ (k : ℕ). k * k) c.transform_length-n.ensures ∙ sym c.requires.in_range.1 in
      omega (arith, part_ends c.loop-u.u n n c.loop-u-test.true)

  row_length : let n = c.transform_length-n.result in let at = c.loop-u.u * n in length (mid_of at (at + n - at) c.loop-u.words) ≡ n
  row_length =
      let n = c.transform_length-n.result in
      let at : ℕ = c.loop-u.u * n in
      length-take-le (at + n - at) (drop at c.loop-u.words) (omega (arith, length-drop at c.loop-u.words, fits, c.loop-u.auto.words)) ∙ omega arith

pub load_line-requires : goal.load_line-requires
load_line-requires c = record {
  in_range = (c.requires.in_range.0, rw (row_length (goal.at.load_line-requires c).In-loop-u) c.shown_of-shown.ensures.fitting);
  map_len = c.requires.map_len;
}

pub loop-u-preserved : goal.loop-u-preserved
loop-u-preserved c =
    let a = c.args in
    let n = c.transform_length-n.ensures in
    next_row _ a.map.now a.channel _ _ _ c.loop-u.u (rw n at c.shown_of-shown.ensures) n (fits (goal.at.loop-u-preserved c).In-loop-u)
    c.loop-u.invariant c.load_line.ensures

pub returns : goal.returns
returns c =
    let done : c.loop-u.u ≡ transform_length c.args.layer.field = omega (arith, c.loop-u.auto.u-end, c.loop-u-test.false, c.transform_length-n.ensures) in
    windowed _ _ _ _ _ c.requires.in_range.1 (rw done at c.loop-u.invariant)
