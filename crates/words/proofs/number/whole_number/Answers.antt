-- A byte that is no digit, and a value that becomes too large, end the reading.
use Rattle.std.proofs.Common.{◌≡◌, sym, ◌∙◌, true, get_or, rules, arith}
use Rattle.base.specs.Rules.{inside}
use Rattle.words.proofs.ReadNumbers.{no_figure, left_all, left_none, left_stops, left_digit, left_large}
use Rattle.words.proofs.number.whole_number.Goals as goal
use Rattle.words.proofs.number.whole_number.Goals.{Else-not-is_ascii_digit}

pub returns-then-is_empty : goal.returns-then-is_empty
returns-then-is_empty c = no_figure _ (search rules)

pub loop-byte-init : goal.loop-byte-init
loop-byte-init c = (omega arith, left_all _ (search rules))

pub returns-then-not-is_ascii_digit : goal.returns-then-not-is_ascii_digit
unfolding inside
returns-then-not-is_ascii_digit c =
    left_stops _ _ _ c.loop-byte-test.true c.loop-byte.invariant.1 (sym c.is_ascii_digit.ensures.value ∙ c.if-not-is_ascii_digit.true)

-- the byte is a digit
digit : (c : Else-not-is_ascii_digit) → inside 48 57 (get_or c.args.word.now c.loop-byte.byte-index 0) ≡ true
unfolding inside
digit c = sym c.is_ascii_digit.ensures.value ∙ c.if-not-is_ascii_digit.false

pub returns-in_err-checked_mul : goal.returns-in_err-checked_mul
returns-in_err-checked_mul c =
    let at = (goal.at.returns-in_err-checked_mul c).Else-not-is_ascii_digit in
    let large = c.in_err-checked_mul.ensures in
    rw c.from_residual.ensures (left_large _ _ _ c.loop-byte-test.true c.loop-byte.invariant.1 (digit at) (omega arith))

pub returns-in_err-value : goal.returns-in_err-value
returns-in_err-value c =
    let at = (goal.at.returns-in_err-value c).Else-not-is_ascii_digit in
    let large = c.in_err-value.ensures in
    rw c.from_residual-in_err-value.ensures
    (left_large _ _ _ c.loop-byte-test.true c.loop-byte.invariant.1 (digit at) (omega (arith, c.in_ok-checked_mul.ensures.1, c.from.ensures)))

pub loop-byte-preserved : goal.loop-byte-preserved
loop-byte-preserved c =
    let at = (goal.at.loop-byte-preserved c).Else-not-is_ascii_digit in (
      omega arith,
      rw (c.in_ok-value.ensures.1, c.in_ok-checked_mul.ensures.1, c.from.ensures)
          (left_digit _ _ _ c.loop-byte-test.true c.loop-byte.invariant.1 (digit at)),
    )

pub returns : goal.returns
returns c = left_none _ _ _ (omega arith) c.loop-byte.invariant.0 c.loop-byte.invariant.1
