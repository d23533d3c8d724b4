-- `is_within` makes the two tests of `within`, the second only where the difference is not below 0.
use mathlib.Core.Path.{sym}
use borrow.Author.Tests.{le-leb, lt-leb}
use Rattle.worst.proofs.values.is_within.Goals as goal

pub returns-then-p-u : goal.returns-then-p-u
returns-then-p-u c = sym (rw (le-leb c.args.p c.args.u c.if-p-u.true))

pub returns-else-p-u : goal.returns-else-p-u
returns-else-p-u c = let past = lt-leb c.args.p c.args.u c.if-p-u.false in rw past
