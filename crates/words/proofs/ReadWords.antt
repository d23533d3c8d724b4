-- Words are read one after the other: those read pass a test, and a buffer holds what they stand for. It rests on the definition of the
-- words of a text, over any test and any meaning of a word.
use Rattle.std.proofs.Common.{◌≡◌, refl, sym, ap, ◌∙◌, Bool, true, false, ◌&&◌, List, [], ◌∷◌, ◌++◌, map, ℕ, suc, ◌+◌, ◌-◌, ◌<◌, length, take, set, append-nil, append_assoc, length-append, add-one, take-suc-set, arith}
use mathlib.Core.Bool.{and_assoc, and-false}
use borrow.Author.Tests.{le-leb, lt-leb}
use lib.Dec.{leb}
use lib.Seq.{append_snoc, take-append_seam, drop-append_seam, take-append-add, take-length}
use Rattle.words.specs.Words.{words_of, every_word}
use Rattle.words.specs.Reading.{NextWord, first_pass, WordsRead, WordsRefused}

-- ---- lists of words

module _ (test : List ℕ → Bool) where
  every_append : (xs ys : List (List ℕ)) → every_word test (xs ++ ys) ≡ every_word test xs && every_word test ys
  every_append [] ys = refl
  every_append (x ∷ xs) ys =
      ap (λ (b : Bool). test x && b) (every_append xs ys) ∙ sym (and_assoc (test x) (every_word test xs) (every_word test ys))

  too_few : (done : List (List ℕ)) (count : ℕ) → length done < count → first_pass test count (done ++ []) ≡ false
  too_few done count l = rw (append-nil done, lt-leb count (length done) l)

  one_fails : (done : List (List ℕ)) (word : List ℕ) (rest : List (List ℕ)) (count : ℕ) → length done < count → test word ≡ false
      → first_pass test count (done ++ (word ∷ rest)) ≡ false
  one_fails done word rest count l e =
      let n : ℕ = count - suc (length done) in
      let split : count ≡ length done + suc n = omega arith in
      ap (λ (b : Bool). leb count (length (done ++ (word ∷ rest))) && b)
      (rw (split, take-append-add done (word ∷ rest) (suc n), every_append, e) (and-false (every_word test done)))
      ∙ and-false (leb count (length (done ++ (word ∷ rest))))

  all_pass : (done rest : List (List ℕ)) → every_word test done ≡ true → first_pass test (length done) (done ++ rest) ≡ true
  all_pass done rest e = rw (take-append_seam done rest, e, le-leb (length done) (length (done ++ rest)) (omega (arith, length-append done rest)))

map-append : {A B : Type 0} (f : A → B) (xs ys : List A) → map f (xs ++ ys) ≡ map f xs ++ map f ys
map-append f [] ys = refl
map-append f (x ∷ xs) ys = ap (λ l. f x ∷ l) (map-append f xs ys)

-- ---- the words of a text, up to the rest of it

module _ {A : Type 0} (test : List ℕ → Bool) (value : List ℕ → A) (cut : Bool) (text : List ℕ) where
  -- i words were read, and the first i entries of the buffer are what they stand for
  pub record Passed (values : List A) (rest : List ℕ) (i : ℕ) : Type 0 where
    pub before : List ℕ
    pub joined : text ≡ before ++ rest
    pub done : List (List ℕ)
    pub words : words_of cut text ≡ done ++ words_of cut rest
    pub same_length : length done ≡ i
    pub passes : every_word test done ≡ true
    pub held : take i values ≡ map value done

  pub passed_none : (values : List A) → Passed values text 0
  passed_none values = record { before = []; joined = refl; done = []; words = refl; same_length = refl; passes = refl; held = refl }

  -- all words were read
  pub passed_all : {values : List A} {rest : List ℕ} {i : ℕ} → Passed values rest i → (count : ℕ) → i ≡ count → WordsRead test cut text count rest
  passed_all {values} {rest} {i} p count e =
      let c : length p.done ≡ count = p.same_length ∙ e in
      record {
        passes = rw (p.words, ← c) (all_pass test p.done (words_of cut rest) p.passes);
        before = p.before;
        joined = p.joined;
        after = rw (p.words, ← c) (sym (drop-append_seam p.done (words_of cut rest)));
      }

  -- the buffer is what the words mean
  pub passed_values : {values : List A} {rest : List ℕ} {i : ℕ} → Passed values rest i → (count : ℕ) → i ≡ count → length values ≡ count
      → values ≡ map value (take count (words_of cut text))
  passed_values {values} {rest} {i} p count e l =
      let c : length p.done ≡ count = p.same_length ∙ e in
      let full : i ≡ length values = e ∙ sym l in
      rw (p.words, ← c, take-append_seam p.done (words_of cut rest), ← p.held, full) (sym (take-length values))

  -- the words that were read pass, and no more of them do
  refused : {values : List A} {rest : List ℕ} {i : ℕ} → Passed values rest i → (count : ℕ) → i < count
      → ((n : ℕ) → i < n → first_pass test n (words_of cut text) ≡ false) → WordsRefused test cut text count rest
  refused {values} {rest} {i} p count l fails =
      record { fails = fails count l; passed = i; fewer = l; read = passed_all p i refl; stops = fails (i + 1) (omega arith) }

  module _ {values : List A} {rest : List ℕ} {i : ℕ} (p : Passed values rest i) (count : ℕ) (l : i < count) where
    -- no word is left
    pub no_word : words_of cut rest ≡ [] → WordsRefused test cut text count rest
    no_word e = refused p count l (λ n m. rw (p.words, e) (too_few test p.done n (omega (arith, p.same_length))))

    module _ {word after : List ℕ} (n : NextWord cut rest word after) where
      -- the next word does not pass
      pub stopped : test word ≡ false → WordsRefused test cut text count rest
      stopped e =
          refused p count l (λ k m. rw (p.words, n.one) (one_fails test p.done word (words_of cut after) k (omega (arith, p.same_length)) e))

      -- the next word passes
      pub passed_next : test word ≡ true → length values ≡ count → (x : A) → x ≡ value word → Passed (set values i x) after (i + 1)
      passed_next e long x v =
          let place : i < length values = omega arith in
          record {
            before = p.before ++ (n.before ++ word);
            joined = p.joined ∙ rw (n.joined, append_assoc, append_assoc);
            done = p.done ++ (word ∷ []);
            words = p.words ∙ rw n.one (sym (append_snoc p.done word (words_of cut after)));
            same_length = length-append p.done (word ∷ []) ∙ omega (arith, p.same_length);
            passes = rw (every_append test p.done (word ∷ []), p.passes, e);
            held = rw (add-one, take-suc-set values i x place, p.held, map-append value p.done (word ∷ []), v);
          }
