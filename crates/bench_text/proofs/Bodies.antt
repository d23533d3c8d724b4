-- The words of a body are those of the map, then those of the kernel, and no more: the tests of the parts are the test of the whole.
-- It rests on the definitions alone.
use mathlib.Core.Path.{◌≡◌, refl, sym, ◌∙◌}
use mathlib.Core.Bool.{Bool, true, false, ◌&&◌, false≢true, and-false}
use mathlib.Core.List.{List, [], ◌∷◌}
use Prim.Native.Nat.{ℕ, zero, suc, ◌+◌, ◌≤◌}
use native.Mathlib.Nat.{add-zero, zero-add, suc-add}
use native.Mathlib.Omega.{arith}
use borrow.Author.Tests.{eqb-true}
use lib.Dec.{leb, eqb, leb-zero, leb-suc-zero, leb-suc-suc, eqb-zero-suc, eqb-suc-zero, eqb-suc-suc}
use lib.IntN.{ℤ}
use lib.ListN.{length, take, drop, length-drop}
use lib.Seq.{take_all}
use Rattle.layer.specs.declared.shape.Layer.{Layer}
use Rattle.layer.specs.Shape.{map_count, kernel_count}
use Rattle.words.specs.Words.{every_word, is_value, values_of}
use Rattle.lines.specs.Lines.{unreadable}
use Rattle.words.specs.Reading.{BodyRead}
use Rattle.bench_text.specs.Printed.{small, ran, body_printed}

-- there are `count` words at least, and the first `count` of them pass the test
abbrev enough : (List ℕ → Bool) → (count : ℕ) → List (List ℕ) → Bool
enough test count words = leb count (length words) && every_word test (take count words)

-- there are `count` words, and all of them pass the test
abbrev exactly : (List ℕ → Bool) → (count : ℕ) → List (List ℕ) → Bool
exactly test count words = eqb (length words) count && every_word test words

module _ (test : List ℕ → Bool) where
  -- the first words, then the rest
  exactly_sum : (a b : ℕ) (words : List (List ℕ)) → exactly test (a + b) words ≡ enough test a words && exactly test b (drop a words)
  exactly_sum zero b words = rw (leb-zero (length words), zero-add b)
  exactly_sum (suc a) b [] = rw (leb-suc-zero a, suc-add a b, eqb-zero-suc (a + b))
  exactly_sum (suc a) b (word ∷ words) =
      rw (leb-suc-suc a (length words), suc-add a b, eqb-suc-suc (length words) (a + b)) (by_word (test word) (exactly_sum a b words))
    where
      by_word : (t : Bool) → exactly test (a + b) words ≡ enough test a words && exactly test b (drop a words)
          → eqb (length words) (a + b) && (t && every_word test words)
          ≡ leb a (length words) && (t && every_word test (take a words)) && exactly test b (drop a words)
      by_word true h = h
      by_word false h = rw (and-false (leb a (length words))) (and-false (eqb (length words) (a + b)))

  exactly_none : (words : List (List ℕ)) → exactly test 0 words ≡ eqb (length words) 0
  exactly_none [] = refl
  exactly_none (word ∷ words) = rw (eqb-suc-zero (length words))

  -- enough of them, and no more
  exactly_enough : (count : ℕ) (words : List (List ℕ)) → exactly test count words ≡ enough test count words && eqb (length (drop count words)) 0
  exactly_enough count words =
      rw (← exactly_none (drop count words)) (rw (add-zero count) at (exactly_sum count 0 words))

module _ {body : List (List ℕ)} {values weights : ℕ} {map kernel : List ℤ} where
  -- the words of the map are not there
  pub map_missing : {m : Bool} → m ≡ enough is_value values body → m ≡ false → BodyRead body values weights map kernel false
  map_missing e f = record {
    reads = rw (exactly_sum is_value values weights body, ← e, f);
    map_read = λ t. absurd (false≢true t);
    kernel_read = λ t. absurd (false≢true t);
  }

  -- or those of the kernel
  pub kernel_missing : {k : Bool} → k ≡ enough is_value weights (drop values body) → k ≡ false
      → BodyRead body values weights map kernel false
  kernel_missing e f = record {
    reads = rw (exactly_sum is_value values weights body, exactly_enough is_value weights (drop values body), ← e, f)
        (sym (and-false (enough is_value values body)));
    map_read = λ t. absurd (false≢true t);
    kernel_read = λ t. absurd (false≢true t);
  }

  -- both are there
  pub body_there : {m k r : Bool} → m ≡ enough is_value values body → m ≡ true → k ≡ enough is_value weights (drop values body) → k ≡ true
      → r ≡ eqb (length (drop weights (drop values body))) 0
      → map ≡ values_of (take values body) → kernel ≡ values_of (take weights (drop values body))
      → BodyRead body values weights map kernel r
  body_there {m} {k} {r} e e' f f' g is-map is-kernel = record {
    reads = rw (exactly_sum is_value values weights body, exactly_enough is_value weights (drop values body), ← e, e', ← f, f') g;
    map_read = λ t. is-map;
    kernel_read = λ t. rw (take_all weights (drop values body) (no_more t)) at is-kernel;
  }
    where
      no_more : r ≡ true → length (drop values body) ≤ weights
      no_more t = omega (arith, length-drop weights (drop values body), eqb-true (length (drop weights (drop values body))) 0 (sym g ∙ t))

-- what is printed of a small layer's body
module _ (l : Layer) (e : small l ≡ true) {body : List (List ℕ)} {map kernel : List ℤ} where
  pub unread_printed : {r : Bool} → BodyRead body (map_count l) (kernel_count l) map kernel r → r ≡ false → body_printed l false body ≡ unreadable
  unread_printed read f = rw (e, ← read.reads, f)

  pub read_printed : {r : Bool} → BodyRead body (map_count l) (kernel_count l) map kernel r → r ≡ true → body_printed l false body ≡ ran l map kernel
  read_printed read t = rw (e, ← read.reads, t, ← read.map_read t, ← read.kernel_read t)
