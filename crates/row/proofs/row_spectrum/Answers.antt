-- The two transforms of columns, the twist and the transposition between them. Rows has the law that joins them.
use Rattle.std.proofs.Common.{◌≡◌, length, ◌∙◌, arith}
use Rattle.passes.specs.Order.{across}
use Rattle.passes.specs.OrderLaws.{across_lt, permuted_most}
use Rattle.row.proofs.Rows.{passes_16, column_grid, rows_most, row_forward}
use Rattle.row.proofs.row_spectrum.Goals as goal
use Rattle.row.proofs.row_spectrum.Goals.{After-twist}

-- how long the words are after the first transform and the twist
twisted_length : (c : After-twist) → length c.twist.new.words ≡ 256
twisted_length c = c.twist.auto.words ∙ c.forward.auto.words ∙ c.requires.0

pub forward-requires-clause-grid : goal.forward-requires-clause-grid
forward-requires-clause-grid c = rw (c.of_field.ensures.0, c.of_field.ensures.1) (column_grid 131074 (omega arith) c.requires.0)

pub twist-requires : goal.twist-requires
twist-requires c =
    let most = rw (passes_16, c.of_field.ensures.1) at c.forward.ensures.at_most_2 in
    (c.forward.auto.words ∙ c.requires.0, omega arith, λ i l. omega (arith, most i l))

pub forward-requires-2-clause-grid : goal.forward-requires-2-clause-grid
forward-requires-2-clause-grid c =
    let size = c.transpose.auto.words ∙ twisted_length (goal.at.forward-requires-2-clause-grid c).After-twist in
    rw (c.settled.ensures.0, c.settled.ensures.1) (column_grid 262148 (omega arith) size)

pub forward-requires-2-clause-at_most : goal.forward-requires-2-clause-at_most
forward-requires-2-clause-at_most c =
    let zs = c.twist.new.words in
    let ts = c.transpose.new.words in
    let long = twisted_length (goal.at.forward-requires-2-clause-at_most c).After-twist in
    rw c.settled.ensures.1
    (permuted_most (across 16) zs ts 262148 long (c.transpose.auto.words ∙ long) (across_lt 16) c.transpose.ensures
    (rows_most zs long (λ r j lr lj. (c.twist.ensures r j lr lj).bound)))

pub returns-clause-row_spectrum : goal.returns-clause-row_spectrum
returns-clause-row_spectrum c =
    row_forward c.args.words.now c.forward.new.words c.twist.new.words c.transpose.new.words c.forward-2.new.words
    (twisted_length (goal.at.returns-clause-row_spectrum c).After-twist) (rw (passes_16, c.of_field.ensures.0) at c.forward.ensures.forward)
    c.twist.ensures c.transpose.ensures (rw (passes_16, c.settled.ensures.0) at c.forward-2.ensures.forward)

pub returns-clause-at_most : goal.returns-clause-at_most
returns-clause-at_most c =
    let most = rw (passes_16, c.settled.ensures.1) at c.forward-2.ensures.at_most_2 in
    λ i l. omega (arith, most i l)
