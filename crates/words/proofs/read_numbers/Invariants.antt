-- `read_numbers` reads word after word. It rests on the laws of words that pass a test.
use Rattle.std.proofs.Common.{◌≡◌, length}
use Rattle.words.proofs.ReadWords.{Passed}
use Rattle.words.proofs.read_numbers.Given as goal

abbrev pub invariant-loop-number : goal.invariant-loop-number
invariant-loop-number g l =
    (length l.numbers ≡ length l.initial.numbers) × Passed g.T.Number.is_number g.T.Number.value_of l.cut l.text l.numbers l.rest l.number-index
