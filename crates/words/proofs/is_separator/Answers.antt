-- `is_separator` makes the two tests of its definition.
use borrow.Author.Tests.{ne_eqb}
use Rattle.words.proofs.is_separator.Goals as goal

pub returns-then-byte-eq32 : goal.returns-then-byte-eq32
returns-then-byte-eq32 c = rw c.if-byte-eq32.true

pub returns-else-byte-eq32 : goal.returns-else-byte-eq32
returns-else-byte-eq32 c = simp (ne_eqb _ _ c.if-byte-eq32.false)
