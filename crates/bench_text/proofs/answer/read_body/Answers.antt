-- `read_body`: the words of the map, those of the kernel and no more are the whole body. The words after the map are the body without
-- its first ones.
use Rattle.std.proofs.Common.{refl, ◌∙◌}
use Rattle.words.specs.ReadingLaws.{values_map}
use Rattle.bench_text.proofs.Bodies.{map_missing, kernel_missing, body_there}
use Rattle.bench_text.proofs.answer.read_body.Goals as goal

pub returns-in_default : goal.returns-in_default
returns-in_default c = map_missing refl c.in_default.ensures.words_read.fails

pub returns-in_default-read_numbers : goal.returns-in_default-read_numbers
returns-in_default-read_numbers c =
    kernel_missing refl (rw c.in-Ok.ensures.words_read.after at c.in_default-read_numbers.ensures.words_read.fails)

pub returns : goal.returns
returns c =
    let first = c.in-Ok.ensures.words_read in
    let second = c.in-Ok-read_numbers.ensures.words_read in
    body_there refl first.passes refl (rw first.after at second.passes) (rw (second.after, first.after) at c.no_more.ensures)
    (c.in-Ok.ensures.numbers_after ∙ values_map _) (rw first.after at c.in-Ok-read_numbers.ensures.numbers_after ∙ values_map _)
