use mathlib.Core.Path.{◌≡◌, ◌∙◌}
use Prim.Native.Nat.{ℕ, ◌+◌, ◌-◌, ◌*◌, ◌<◌, ◌≤◌}
use native.Mathlib.Nat.{dvd-mul_left, pos_of_dvd_of_pos}
use native.Mathlib.Omega.{arith}
use lib.ListN.{length}
use Rattle.passes.specs.PartLaws.{part_length, part_most}
use Rattle.passes.proofs.Blocks.{block_inside, blocks_none, blocks_more, blocks_all}
use Rattle.passes.proofs.pass.Given.{Over}
use Rattle.passes.proofs.pass.Goals as goal
use Rattle.passes.proofs.pass.Goals.{In-loop-at}

-- in a turn, the block lies within the words, and what is lent of it is as long as the block
module _ (g : Over) (c : In-loop-at g) where
  abbrev place : ℕ
  place = c.loop-at.at

  abbrev block : ℕ
  block = 2 * c.args.half

  inside : place + block ≤ length c.loop-at.words
  inside =
      let state = c.loop-at.invariant in
      let whole = c.requires.whole_blocks.0 in
      let short : state.count * block < whole.blocks * block = omega (arith, c.loop-at-test.true, state.start, state.same_length, whole.whole) in
      omega (arith, block_inside state.count whole.blocks block short, state.start, state.same_length, whole.whole)

  lent : place + block - place ≡ block
  lent = omega arith

  fits : place + (place + block - place) ≤ length c.loop-at.words
  fits = omega (arith, inside, lent)

pub loop-at-init : goal.loop-at-init
loop-at-init g c =
    let a = c.args in
    blocks_none g.B.Butterfly.step a.residues.bits a.residues.bound a.unit a.rows a.lanes a.half a.words.now

pub overflow_mul-end : goal.overflow_mul-end
overflow_mul-end g c = omega (arith, inside g c)

pub overflow_add-end : goal.overflow_add-end
overflow_add-end g c = omega (arith, inside g c)

pub offset_bounds-words-at : goal.offset_bounds-words-at
offset_bounds-words-at g c = omega (arith, inside g c)

pub slice_bounds-stage-end : goal.slice_bounds-stage-end
slice_bounds-stage-end g c = omega (arith, inside g c)

pub stage-requires : goal.stage-requires
stage-requires g c =
    let turn = (goal.at.stage-requires g c).In-loop-at in
    let loop = c.loop-at in
    let size = place g turn + block g turn - place g turn in
    let state = loop.invariant in record {
      stage_sizes = rw (part_length loop.at size loop.words (fits g turn), lent g turn) c.requires.whole_blocks.1;
      at_most = part_most loop.at size loop.words (fits g turn) c.args.residues.bound
          (λ i l. omega (arith, state.rest (loop.at + i) (omega arith), c.requires.at_most (loop.at + i) (omega (arith, fits g turn, state.same_length))));
    }

pub loop-at-smaller : goal.loop-at-smaller
loop-at-smaller g c =
    let turn = (goal.at.loop-at-smaller g c).In-loop-at in
    let same = c.loop-at.invariant.same_length in
    let whole = c.requires.whole_blocks.0 in
    let some : 0 < block g turn = pos_of_dvd_of_pos (dvd-mul_left (block g turn) whole.blocks) (omega (arith, c.loop-at-test.true, whole.whole)) in
    omega (arith, inside g turn)

pub loop-at-preserved : goal.loop-at-preserved
loop-at-preserved g c =
    let turn = (goal.at.loop-at-preserved g c).In-loop-at in
    let loop = c.loop-at in
    let a = c.args in
    let size = place g turn + block g turn - place g turn in
    blocks_more g.B.Butterfly.step a.residues.bits a.residues.bound a.unit a.rows a.lanes a.half loop.at size a.words.now loop.words c.stage.new.words
    (lent g turn) (fits g turn) (c.stage.auto.words ∙ part_length loop.at size loop.words (fits g turn)) loop.invariant c.stage.ensures

pub shape_of-words : goal.shape_of-words
shape_of-words g c = c.loop-at.invariant.same_length

pub returns : goal.returns
returns g c =
    let a = c.args in
    let all = c.loop-at.invariant in
    blocks_all g.B.Butterfly.step a.residues.bits a.residues.bound a.unit a.rows a.lanes a.half all (omega (arith, c.loop-at-test.false, all.same_length))
