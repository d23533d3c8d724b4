-- `put_outputs`: what the run answers and leaves is what is printed of it. The line of the count takes at most 27 bytes, and each output at most 12.
use mathlib.Core.Path.{refl}
use Prim.Native.Nat.{◌≤◌}
use native.Mathlib.Omega.{arith}
use lib.ListN.{length-append}
use Rattle.lines.specs.WritingLaws.{append_two}
use Rattle.lines.specs.DecimalLaws.{decimal_few}
use Rattle.bench_text.proofs.Runs.{run_refused, run_accepted}
use Rattle.bench_text.proofs.answer.put_outputs.Goals as goal
use Rattle.bench_text.proofs.answer.put_outputs.Goals.{After-put_numbered-at}

-- the line of the count
module _ (c : After-put_numbered-at) where
  line_few : c.put_numbered-at.result ≤ 27
  line_few =
      let few = decimal_few c.run_by-progress.result.count 20 (omega arith) (omega arith) in
      omega (arith, simp length-append at c.put_numbered-at.ensures.ends, few)

pub returns-then-progress-ne0 : goal.returns-then-progress-ne0
returns-then-progress-ne0 c =
    rw (run_refused c.run_by-progress.ensures c.requires.1 refl c.if-progress-ne0.true) c.put_numbered.ensures

pub put_rows-requires : goal.put_rows-requires
put_rows-requires c =
    (c.requires.0.columns_low, omega (arith, line_few (goal.at.put_rows-requires c).After-put_numbered-at, c.put_numbered-at.ensures.same_length, c.requires.1, c.requires.2, c.requires.3))

pub returns : goal.returns
returns c =
    rw (run_accepted c.run_by-progress.ensures c.requires.1 refl c.if-progress-ne0.false)
    (append_two c.put_numbered-at.ensures c.put_rows.ensures)
