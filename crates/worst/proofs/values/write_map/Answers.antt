use mathlib.Core.Path.{◌≡◌, ap, ◌∙◌}
use Prim.Native.Nat.{ℕ, ◌+◌, ◌*◌, ◌-◌, ◌≤◌}
use native.Mathlib.Omega.{arith}
use lib.IntN.{pos}
use lib.ListN.{length, drop, length-take}
use borrow.Rule.Slice.PartMut.{mid_of, put_mid}
use Rattle.algebra.specs.Places.{Written, Run}
use Rattle.algebra.specs.PlacesLaws.{table_of, written_nothing, written_further, written_part, written_as, part_ends}
use Rattle.layer.specs.CountLaws.{map_rows_high, map_high}
use Rattle.layer.specs.Shape.{map_count}
use Rattle.worst.specs.Worst.{value_at}
use Rattle.worst.proofs.values.write_map.Goals as goal
use Rattle.worst.proofs.values.write_map.Goals.{Start, In-loop-line}

lines_high : (s : Start) → s.args.layer.inputs * s.args.layer.height ≤ 32768
lines_high s = map_rows_high _ s.requires.0.accepted.plan.shape

-- the row that is lent lies within the map
module _ (c : In-loop-line) where
  abbrev W : ℕ
  W = c.args.layer.width

  abbrev start : ℕ
  start = c.loop-line.line * W

  ends : start + W ≤ length c.loop-line.map
  ends = omega (arith, part_ends c.loop-line.line (c.args.layer.inputs * c.args.layer.height) W (omega arith), c.loop-line.invariant.same_length, c.requires.1)

  high : start + W ≤ 16777216
  high = omega (arith, ends, c.loop-line.invariant.same_length, c.requires.1, map_high c.args.layer c.requires.0.accepted.plan.shape)

pub loop-line-init : goal.loop-line-init
loop-line-init c = written_nothing (λ p h. omega arith)

pub slice_bounds-write_row-end : goal.slice_bounds-write_row-end
slice_bounds-write_row-end c = ends (goal.at.slice_bounds-write_row-end c).In-loop-line

pub loop-line-preserved : goal.loop-line-preserved
loop-line-preserved c =
    let a = c.args in
    let turn = (goal.at.loop-line-preserved c).In-loop-line in
    let size = start turn + W turn - start turn in
    let whole : size ≡ W turn = omega arith in
    let fits : start turn + size ≤ length c.loop-line.map = omega (arith, ends turn) in
    let row : Written (pos 0) (λ (j : ℕ). Unit {0}) (λ (j : ℕ). value_at a.layer a.kernel.now a.output (start turn + j)) (mid_of (start turn) size c.loop-line.map) c.write_row.new.row
    = record {
      same_length = c.write_row.ensures.len;
      here = λ j l h. c.write_row.ensures.values j (omega (arith, length-take size (drop (start turn) c.loop-line.map)));
      kept = λ j out. absurd (out tt);
    } in
    let part : Written (pos 0) (Run (start turn) (W turn)) (value_at a.layer a.kernel.now a.output) c.loop-line.map
    (put_mid (start turn) size c.loop-line.map c.write_row.new.row)
    = written_as (written_part (start turn) size fits row) (λ p l h. ((omega arith, omega arith), tt)) (λ p h. (omega arith, omega arith))
    (λ p l h. let same : start turn + (p - start turn) ≡ p = omega arith in ap (value_at a.layer a.kernel.now a.output) same) in
    let longer : (c.loop-line.line + 1) * W turn ≡ start turn + W turn = omega arith in
    rw longer (written_further 0 (start turn) (W turn) (omega arith) c.loop-line.invariant part)

pub returns : goal.returns
returns c =
    let l = c.args.layer in
    let last : c.loop-line.line ≡ l.inputs * l.height = omega arith in
    let w = rw last at c.loop-line.invariant in
    table_of (pos 0) (map_count l) (value_at l c.args.kernel.now c.args.output) c.loop-line.map (w.same_length ∙ c.requires.1)
    (λ p h. w.here p (omega (arith, c.requires.1)) (omega arith, omega arith))
