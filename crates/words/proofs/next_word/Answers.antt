-- `next_word` passes separators, then bytes that are none. It rests on the laws of the next word of a text.
use Rattle.std.proofs.Common.{◌≡◌, sym, ◌∙◌, ap, List, ℕ, take, drop, rules}
use mathlib.Core.Bool.{false≢true}
use Rattle.words.proofs.NextWords.{lead, gap, no_bytes, touching, next}
use Rattle.words.proofs.next_word.Goals as goal
use Rattle.words.proofs.next_word.Goals.{After-split_at-2, else-cut-via-then-cut+else-is_empty-2, else-cut-via-else-cut}

module _ (c : After-split_at-2) where
  abbrev text : List ℕ
  text = c.args.text.now

  start : c.split_at.result.1.now ≡ drop (lead text) text
  start = c.split_at.ensures.back ∙ ap (λ (n : ℕ). drop n text) c.separators.ensures.value

  bytes : c.split_at-2.result.0.now ≡ take (gap c.split_at.result.1.now) c.split_at.result.1.now
  bytes = c.split_at-2.ensures.front ∙ ap (λ (n : ℕ). take n c.split_at.result.1.now) c.others.ensures.value

  rest : c.split_at-2.result.1.now ≡ drop (gap c.split_at.result.1.now) c.split_at.result.1.now
  rest = c.split_at-2.ensures.back ∙ ap (λ (n : ℕ). drop n c.split_at.result.1.now) c.others.ensures.value

pub returns-then-is_empty : goal.returns-then-is_empty
returns-then-is_empty c =
    let at = (goal.at.returns-then-is_empty c).After-split_at-2 in
    no_bytes _ _ (start at) (bytes at) (rest at) (search rules)

pub returns-then-is_empty-2 : goal.returns-then-is_empty-2
returns-then-is_empty-2 c =
    let at = (goal.at.returns-then-is_empty-2 c).After-split_at-2 in
    touching _ _ (start at) (bytes at) (rest at) c.if-cut.true (search rules)

pub returns : goal.returns
returns c =
    let at = (goal.at.returns c).After-split_at-2 in
    next _ _ (start at) (bytes at) (rest at) (search rules)
    (elim c.else-cut.branch [
      | else-cut-via-then-cut+else-is_empty-2 w ↦ λ end. absurd (false≢true (rw end at (sym w.if-is_empty-2.false ∙ w.is_empty-then-cut.ensures)))
      | else-cut-via-else-cut w ↦ λ end. w.if-cut.false
    ])
