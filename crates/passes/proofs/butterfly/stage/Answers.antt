-- A row is still as lent before its turn, and row 0 comes last, by the laws of Stages.
use mathlib.Core.Path.{◌≡◌, refl}
use native.Mathlib.Omega.{arith}
use Rattle.algebra.specs.PlacesLaws.{part_ends}
use Rattle.passes.proofs.Stages.{pairs_lent, rows_longer, rows_all}
use Rattle.passes.proofs.butterfly.stage.Goals as goal

pub loop-r-preserved : goal.loop-r-preserved
loop-r-preserved g c =
    let a = c.args in
    let loop = c.loop-r in
    rows_longer g.B.Butterfly.step a.residues.bits a.residues.bound a.unit a.half a.lanes loop.r _ _ a.words.now loop.words c.butterflies.new.words
    (omega arith) refl refl loop.invariant c.butterflies.ensures

pub butterflies-requires-2-clause-pairs_at_most : goal.butterflies-requires-2-clause-pairs_at_most
butterflies-requires-2-clause-pairs_at_most g c =
    let a = c.args in
    let row = part_ends 0 a.rows a.lanes c.requires.stage_sizes.some in
    pairs_lent a.residues.bound a.half a.words.now c.loop-r.words c.requires.stage_sizes.whole c.requires.at_most c.loop-r.invariant
    (λ i q. omega (arith, row, q, c.requires.stage_sizes.inside)) (λ i q p. omega arith)

pub returns : goal.returns
returns g c =
    let a = c.args in
    let all : c.loop-r.r ≡ a.rows = omega (arith, c.requires.stage_sizes.some) in
    rows_all g.B.Butterfly.step a.residues.bits a.residues.bound a.unit a.half a.lanes a.rows a.words.now c.loop-r.words c.butterflies-2.new.words
    c.requires.stage_sizes.some (rw all at c.loop-r.invariant) c.butterflies-2.ensures
