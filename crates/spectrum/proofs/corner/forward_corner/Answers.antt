-- `forward` twice: over the columns of the corner, and over the rows that `widen` makes of them. Corners has the law that joins them.
use Rattle.std.proofs.Common.{◌≡◌, ◌-◌, ◌*◌, length, ◌∙◌, arith}
use borrow.Rule.Slice.PartMut.{same_len_mid}
use Rattle.passes.specs.Passes.{passes}
use Rattle.spectrum.specs.Corner.{corner_start}
use Rattle.spectrum.proofs.Widening.{corner-inside}
use Rattle.spectrum.proofs.Corners.{Wide, wide_most, corner_forward}
use Rattle.spectrum.proofs.corner.forward_corner.Goals as goal
use Rattle.spectrum.proofs.corner.forward_corner.Goals.{After-widen, Start}

-- how many words are lent first
lent : (s : Start) → let a = s.args in length a.words.now - corner_start a.n a.k ≡ a.n * a.k
lent s = omega (arith, s.requires.cornered.whole, corner-inside s.args.n s.args.k s.requires.cornered.small)

-- the words of the first transform, and those that are made of them
wide : (c : After-widen) → let a = c.args in Wide a.n a.k (length a.words.now - corner_start a.n a.k) a.words.now c.forward.new.words c.widen.new.words
wide c =
    let a = c.args in
    let kept = c.forward.auto.words in
    let from = corner_start a.n a.k in
    let whole = same_len_mid from (length a.words.now - from) a.words.now c.forward.new.words kept in
    record { kept = kept; whole = c.widen.auto.words ∙ whole; widened = c.widen.ensures }

pub forward-requires-2-clause-at_most : goal.forward-requires-2-clause-at_most
forward-requires-2-clause-at_most c =
    let at = goal.at.forward-requires-2-clause-at_most c in
    let most = rw (← c.requires.square.side) at c.forward.ensures.at_most_2 in
    rw c.transformed.ensures.1 (wide_most c.requires.cornered (lent at.Start) (wide at.After-widen) (c.args.residues.bound * c.args.n) most)

pub returns-clause-tile_forward : goal.returns-clause-tile_forward
returns-clause-tile_forward c =
    let a = c.args in
    let at = goal.at.returns-clause-tile_forward c in
    corner_forward c.requires.cornered (lent at.Start) (wide at.After-widen) _ 2 (passes a.n) c.forward-2.new.words
    c.requires.square.side c.forward.ensures.forward (rw c.transformed.ensures.0 at c.forward-2.ensures.forward)
