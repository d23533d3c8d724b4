-- The next word is a number, or ends the reading.
use Rattle.std.proofs.Common.{◌≡◌, refl, Bool, true, false, Option, Some, None, Err, rules, arith}
use Rattle.std.specs.Option.{ok_or}
use Rattle.std.proofs.lemmas.Result.{err_from_is_err_and}
use Rattle.words.proofs.ReadWords.{passed_none, no_word, stopped, passed_next}
use Rattle.words.proofs.read_numbers.Goals as goal

untrue : (b : Bool) → (b ≡ true → ⊥) → b ≡ false
untrue true h = absurd (h refl)
untrue false h = refl

-- where `ok_or` answers an error, there was no value, and the error is the one that was given
not_there : {A E : Type 0} (o : Option A) {e rest : E} → Err e ≡ ok_or o rest → (o ≡ None) × (e ≡ rest)
not_there None h = (refl, (cc))
not_there (Some x) h = absurd (cc)

pub loop-number-init : goal.loop-number-init
loop-number-init g c = (refl, passed_none _ _ _ _ _)

pub returns-in_err-word-clause-words_read : goal.returns-in_err-word-clause-words_read
returns-in_err-word-clause-words_read g c =
    let end = err_from_is_err_and c.from_residual.result c.from_residual.ensures.1 in
    let none = not_there _ c.in_err-word.ensures.value in
    rw (end.1, end.2, none.1) (no_word _ _ _ _ c.loop-number.invariant.1 _ (omega arith) (rw none.0 at c.next_word.ensures))

pub returns-in_err-number-clause-words_read : goal.returns-in_err-number-clause-words_read
returns-in_err-number-clause-words_read g c =
    let end = err_from_is_err_and c.from_residual-in_err-number.result c.from_residual-in_err-number.ensures.1 in
    let none = not_there _ c.in_err-number.ensures.value in
    let word = rw c.in_ok-word.ensures.ok_part at c.next_word.ensures in
    rw (end.1, end.2, none.1) (stopped _ _ _ _ c.loop-number.invariant.1 _ (omega arith) word (untrue _ (rw none.0 at c.from_word.ensures)))

pub loop-number-preserved : goal.loop-number-preserved
loop-number-preserved g c =
    let word = rw c.in_ok-word.ensures.ok_part at c.next_word.ensures in
    let number = rw c.in_ok-number.ensures.ok_part at c.from_word.ensures in
    (search rules, passed_next _ _ _ _ c.loop-number.invariant.1 _ (omega arith) word number.0 c.loop-number.invariant.0 _ number.1)
