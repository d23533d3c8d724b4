-- `whole_number` passes digit after digit: the value so far and the bytes left decide. It rests on the laws of a number that is read from
-- the left.
use Rattle.std.proofs.Common.{◌≤◌}
use Rattle.words.proofs.ReadNumbers.{Left}
use Rattle.words.proofs.number.whole_number.Given as goal

abbrev pub invariant-loop-byte : goal.invariant-loop-byte
invariant-loop-byte l = (l.value ≤ 65535) × Left l.word l.byte-index l.value
