-- The size is that of the digits; with a minus sign before it, 32,768 fits 16 bits too. It rests on the laws of a word with a sign.
use Rattle.std.proofs.Common.{refl, ◌≤◌, arith}
use Rattle.words.proofs.ReadSigns.{not_figure, figure_small, minus_test, plain_test, negated, minus_read, plain_read}
use Rattle.words.proofs.number.signed_number.Goals as goal

pub returns-in_err-whole_number-in-Some : goal.returns-in_err-whole_number-in-Some
returns-in_err-whole_number-in-Some c =
    let minus = c.in-Some.ensures.cases in
    rw (c.from_residual.ensures, minus_test _ minus.0)
    (not_figure 32768 _ (omega arith) (rw minus.1 at c.in_err-whole_number-in-Some.ensures))

pub returns-in_err-whole_number-in-None : goal.returns-in_err-whole_number-in-None
returns-in_err-whole_number-in-None c =
    rw (c.from_residual-in_err-whole_number-in-None.ensures, plain_test _ c.in-None.ensures.cases)
    (not_figure 32767 _ (omega arith) c.in_err-whole_number-in-None.ensures)

pub returns-in_ok-whole_number-in-Some : goal.returns-in_ok-whole_number-in-Some
returns-in_ok-whole_number-in-Some c =
    let minus = c.in-Some.ensures.cases in
    let size = c.in_ok-whole_number-in-Some.ensures in
    let small : c.in_ok-whole_number-in-Some.field-0 ≤ 65535 = omega (arith, size.1, figure_small _ size.0) in
    minus_read c.try_from.result c.ok.ensures.value c.try_from.ensures c.args.word.now minus.0 minus.1 size (negated _ small _ c.from.ensures)

pub returns-in_ok-whole_number-in-None : goal.returns-in_ok-whole_number-in-None
returns-in_ok-whole_number-in-None c =
    plain_read c.try_from-in-None.result c.ok-in-None.ensures.value c.try_from-in-None.ensures c.args.word.now c.in-None.ensures.cases c.in_ok-whole_number-in-None.ensures refl
