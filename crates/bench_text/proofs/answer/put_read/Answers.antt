-- `put_read`: what was read decides whether the layer is run.
use mathlib.Core.Bool.{false}
use Rattle.layer.specs.Shape.{map_count, kernel_count}
use Rattle.words.specs.Words.{words_of}
use Rattle.words.specs.Reading.{BodyRead}
use Rattle.bench_text.proofs.Bodies.{unread_printed, read_printed}
use Rattle.bench_text.proofs.answer.put_read.Goals as goal
use Rattle.bench_text.proofs.answer.put_read.Goals.{After-read_body}

-- map and kernel are read
module _ (c : After-read_body) where
  read : let g = c.args in
      BodyRead (words_of false g.text.now) (map_count g.layer) (kernel_count g.layer)
      c.read_body.new.map c.read_body.new.kernel c.read_body.result
  read = rw (c.requires.map_len.0, c.requires.map_len.1) at c.read_body.ensures

pub returns-then-not-read_body : goal.returns-then-not-read_body
returns-then-not-read_body c =
    rw (unread_printed c.args.layer c.requires.planned.1 (read (goal.at.returns-then-not-read_body c).After-read_body) c.if-not-read_body.true) c.put_unreadable.ensures

pub returns : goal.returns
returns c =
    rw (read_printed c.args.layer c.requires.planned.1 (read (goal.at.returns c).After-read_body) c.if-not-read_body.false) c.put_run.ensures
