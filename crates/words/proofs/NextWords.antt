-- The next word of a text: separators are passed one by one, then the bytes up to the next separator are gathered. It rests on the
-- definition of the words of a text.
use Rattle.std.proofs.Common.{◌≡◌, refl, sym, ap, ◌∙◌, Bool, true, false, not, List, [], ◌∷◌, ◌++◌, ℕ, suc, ◌+◌, ◌≤◌, ◌<◌, length, take, drop, append-nil, length-drop, arith}
use Rattle.std.specs.List.{position_or_len}
use Rattle.std.proofs.lemmas.List.{take-append-drop}
use Rattle.std.proofs.lemmas.List.Folds.{length-prefix_len}
use lib.Seq.{append_snoc}
use Rattle.words.specs.Words.{is_separator, words_from, words_of}
use Rattle.words.specs.Reading.{NextWord}

-- the separators at the front of a text, and the bytes before the first separator
abbrev pub lead : List ℕ → ℕ
lead text = position_or_len (λ byte. not (is_separator byte)) text

abbrev pub gap : List ℕ → ℕ
gap text = position_or_len is_separator text

drop_next : (n byte : ℕ) (text : List ℕ) → drop (1 + n) (byte ∷ text) ≡ drop n text
drop_next n byte text = let e : 1 + n ≡ suc n = omega arith in rw e

take_next : (n byte : ℕ) (text : List ℕ) → take (1 + n) (byte ∷ text) ≡ byte ∷ take n text
take_next n byte text = let e : 1 + n ≡ suc n = omega arith in rw e

module _ (cut : Bool) where
  -- no word is in an empty text
  none_left : words_from cut [] [] ≡ []
  none_left = elim cut as (λ (c : Bool). words_from c [] [] ≡ []) [ true ↦ refl | false ↦ refl ]

  pub skipped : (text : List ℕ) → words_from cut [] text ≡ words_from cut [] (drop (lead text) text)
  skipped [] = refl
  skipped (byte ∷ text) = go (is_separator byte) refl (skipped text)
    where
      go : (t : Bool) → is_separator byte ≡ t → words_from cut [] text ≡ words_from cut [] (drop (lead text) text)
          → words_from cut [] (byte ∷ text) ≡ words_from cut [] (drop (lead (byte ∷ text)) (byte ∷ text))
      go true e h = rw (e, drop_next (lead text) byte text) h
      go false e h = rw e (rw e)

  pub gathered : (text word : List ℕ) → words_from cut word text ≡ words_from cut (word ++ take (gap text) text) (drop (gap text) text)
  gathered [] word = rw (append-nil word)
  gathered (byte ∷ text) word = go (is_separator byte) refl (gathered text (word ++ (byte ∷ [])))
    where
      go : (t : Bool) → is_separator byte ≡ t
          → words_from cut (word ++ (byte ∷ [])) text ≡ words_from cut ((word ++ (byte ∷ [])) ++ take (gap text) text) (drop (gap text) text)
          → words_from cut word (byte ∷ text) ≡ words_from cut (word ++ take (gap (byte ∷ text)) (byte ∷ text)) (drop (gap (byte ∷ text)) (byte ∷ text))
      go true e h = rw (e, append-nil word) (rw e)
      go false e h =
          rw (e, drop_next (gap text) byte text, take_next (gap text) byte text)
          (h ∙ ap (λ (w : List ℕ). words_from cut w (drop (gap text) text)) (append_snoc word byte (take (gap text) text)))

  -- a word that was gathered is ended by a separator, or by the end of a text that is not cut off
  pub ended : (text word : List ℕ) → 0 < length word → (length text ≤ gap text → cut ≡ false)
      → words_from cut word (drop (gap text) text) ≡ word ∷ words_from cut [] (drop (gap text) text)
  ended text [] some whole = absurd (omega arith)
  ended [] (first ∷ word) some whole = rw (whole (omega arith))
  ended (byte ∷ text) (first ∷ word) some whole = go (is_separator byte) refl whole (ended text (first ∷ word) some)
    where
      go : (t : Bool) → is_separator byte ≡ t → (length (byte ∷ text) ≤ gap (byte ∷ text) → cut ≡ false)
          → ((length text ≤ gap text → cut ≡ false)
          → words_from cut (first ∷ word) (drop (gap text) text) ≡ (first ∷ word) ∷ words_from cut [] (drop (gap text) text))
          → words_from cut (first ∷ word) (drop (gap (byte ∷ text)) (byte ∷ text)) ≡ (first ∷ word) ∷ words_from cut [] (drop (gap (byte ∷ text)) (byte ∷ text))
      go true e h next = rw e (rw e)
      go false e h next = rw (e, drop_next (gap text) byte text) (next (λ l. rw e at h (omega arith)))

  -- no byte stands before the first separator after the separators: no word is left
  pub nothing : (text : List ℕ) → gap (drop (lead text) text) ≡ 0 → words_from cut [] text ≡ []
  nothing [] e = none_left
  nothing (byte ∷ text) e = go (is_separator byte) refl e (nothing text)
    where
      go : (t : Bool) → is_separator byte ≡ t → gap (drop (lead (byte ∷ text)) (byte ∷ text)) ≡ 0
          → (gap (drop (lead text) text) ≡ 0 → words_from cut [] text ≡ []) → words_from cut [] (byte ∷ text) ≡ []
      go true s e next = rw s (next (rw (s, drop_next (lead text) byte text) at e))
      go false s e next = absurd (let l : 1 + gap text ≡ 0 = rw s at (rw s at e) in omega arith)

-- ---- the next word

no_byte : (xs : List ℕ) → length xs ≡ 0 → xs ≡ []
no_byte [] e = refl
no_byte (x ∷ xs) e = absurd (omega arith)

-- a text in three parts: the separators at its front, the bytes before the next separator, and the rest
module _ (cut : Bool) (text : List ℕ) {start bytes rest : List ℕ} (p : start ≡ drop (lead text) text) (q : bytes ≡ take (gap start) start)
    (r : rest ≡ drop (gap start) start) where
  pub no_bytes : length bytes ≡ 0 → words_of cut text ≡ []
  unfolding words_of
  no_bytes e =
      let none : gap start ≡ 0 = sym (length-prefix_len (λ b. not (is_separator b)) start) ∙ ap length (sym q) ∙ e in
      nothing cut text (rw p at none)

  parted : words_of cut text ≡ words_from cut bytes rest
  unfolding words_of
  parted = skipped cut text ∙ gathered cut (drop (lead text) text) [] ∙ rw (q, r, p)

  -- the word touches the end of a text that is cut off
  pub touching : cut ≡ true → length rest ≡ 0 → words_of cut text ≡ []
  touching e end = parted ∙ rw (e, no_byte rest end)

  pub next : 0 < length bytes → (length rest ≡ 0 → cut ≡ false) → NextWord cut text bytes rest
  unfolding words_of
  next some whole = record {
    some = some;
    before = take (lead text) text;
    joined = sym (rw (q, r, p, take-append-drop (gap (drop (lead text) text)) (drop (lead text) text)) (take-append-drop (lead text) text));
    one = parted ∙ rw r (ended cut start bytes some (λ l. whole (rw r (omega (arith, length-drop (gap start) start)))));
  }
