-- The two inverses of columns with a transposition and a twist between them; then the words become residues. Rows has the law that joins them.
use Rattle.std.proofs.Common.{◌≡◌, ◌*◌, length, ◌∙◌, arith}
use Rattle.passes.specs.Butterfly.{AtMost}
use Rattle.passes.specs.Order.{across}
use Rattle.passes.specs.OrderLaws.{across_lt, permuted_most}
use Rattle.spectrum.specs.Product.{settled_most}
use Rattle.row.proofs.Rows.{passes_16, column_grid, rows_most, row-residue, row_inverse}
use Rattle.row.proofs.recover_row.Goals as goal
use Rattle.row.proofs.recover_row.Goals.{After-transpose, After-twist}

-- the steps, and how long their words are
columns_length : (c : After-transpose) → length c.inverse.new.words ≡ 256
columns_length c = c.inverse.auto.words ∙ c.requires.0

turned_length : (c : After-transpose) → length c.transpose.new.words ≡ 256
turned_length c = c.transpose.auto.words ∙ columns_length c

twisted_length : (c : After-twist) → length c.twist.new.words ≡ 256
twisted_length c = c.twist.auto.words ∙ c.transpose.auto.words ∙ c.inverse.auto.words ∙ c.requires.0

pub inverse-requires-clause-grid : goal.inverse-requires-clause-grid
inverse-requires-clause-grid c = rw (c.settled-residues.ensures.0, c.settled-residues.ensures.1) (column_grid 262148 (omega arith) c.requires.0)

pub twist-requires : goal.twist-requires
twist-requires c =
    let ys = c.inverse.new.words in
    let ts = c.transpose.new.words in
    let at = (goal.at.twist-requires c).After-transpose in
    let most : AtMost (16 * settled_most 4) ts =
    permuted_most (across 16) ys ts (16 * settled_most 4) (columns_length at) (turned_length at) (across_lt 16) c.transpose.ensures
    (rw (passes_16, c.settled-residues.ensures.1) at c.inverse.ensures.at_most_2) in
    (turned_length at, omega arith, λ i l. omega (arith, most i l))

pub inverse-requires-2-clause-grid : goal.inverse-requires-2-clause-grid
inverse-requires-2-clause-grid c =
    let size = twisted_length (goal.at.inverse-requires-2-clause-grid c).After-twist in
    rw (c.settled-residues.ensures.0, c.settled-residues.ensures.1) (column_grid 262148 (omega arith) size)

pub inverse-requires-2-clause-at_most : goal.inverse-requires-2-clause-at_most
inverse-requires-2-clause-at_most c =
    let size = twisted_length (goal.at.inverse-requires-2-clause-at_most c).After-twist in
    rw c.settled-residues.ensures.1 (rows_most c.twist.new.words size (λ r j lr lj. (c.twist.ensures r j lr lj).bound))

pub offset_residues-requires : goal.offset_residues-requires
offset_residues-requires c =
    let most = rw (passes_16, c.settled-residues.ensures.1) at c.inverse-2.ensures.at_most_2 in
    rw c.settled-residues.ensures.0 (
      c.offset_of.ensures,
      λ i l. record { bits_low = omega arith; bits_high = omega arith; rest = omega arith; bound = omega (arith, most i l) },
    )

pub returns : goal.returns
returns c =
    let at = goal.at.returns c in
    let bits = c.settled-residues.ensures.0 in
    let us = c.inverse-2.new.words in
    let size : length us ≡ 256 = c.inverse-2.auto.words ∙ twisted_length at.After-twist in
    let residues = rw bits at c.offset_residues.ensures in
    row_inverse c.args.words.now c.inverse.new.words c.transpose.new.words c.twist.new.words us
    c.offset_residues.new.words (columns_length at.After-transpose) (rw (passes_16, bits) at c.inverse.ensures.inverse) c.transpose.ensures
    c.twist.ensures (rw (passes_16, bits) at c.inverse-2.ensures.inverse) (λ i l. row-residue (residues i (omega (arith, size))))
