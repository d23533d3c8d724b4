-- A word is a number with a minus sign before it, or without one. It rests on the definitions alone.
use Rattle.std.proofs.Common.{◌≡◌, refl, sym, ap, ◌∙◌, Bool, true, false, cond, ◌&&◌, List, [], ◌∷◌, ℕ, zero, suc, ◌≤◌, ℤ, pos, drop, take, Option, Result, Ok, Err, arith}
use Rattle.std.specs.Option.{SomeIff}
use Rattle.std.specs.Result.{OkIff, result_ok}
use Rattle.std.specs.Cmp.Lexicographic.{pointwise}
use mathlib.Core.Bool.{false≢true}
use borrow.Author.Tests.{leb-true, le-leb}
use lib.Dec.{leb, eqb}
use lib.IntN.{neg_ℤ, ◌-ℤ◌, +ℤ_idl}
use mir.Facts.{to_z-of_z}
use mir.Syntax.{w16, w32}
use mir.Val.{SFits, to_z, of_z}
use Rattle.words.specs.Words.{is_whole, whole_value, is_figure, is_value, signed_value}
use Rattle.words.specs.Reading.{SignedRead}

-- a number of digits up to a limit
abbrev pub whole_to : (limit : ℕ) → (word : List ℕ) → Bool
whole_to limit word = is_whole word && leb (whole_value word) limit

module _ (limit : ℕ) (word : List ℕ) (low : limit ≤ 65535) where
  -- what is no number to 65,535 is none to a lower limit
  pub not_figure : (is_figure word ≡ true → ⊥) → whole_to limit word ≡ true → ⊥
  unfolding is_figure
  not_figure = go (is_whole word)
    where
      go : (t : Bool) → (t && leb (whole_value word) 65535 ≡ true → ⊥) → t && leb (whole_value word) limit ≡ true → ⊥
      go true h e = let l = leb-true (whole_value word) limit e in h (le-leb (whole_value word) 65535 (omega arith))
      go false h e = false≢true e

  -- what is one is compared with the limit
  pub figure_to : is_figure word ≡ true → whole_to limit word ≡ leb (whole_value word) limit
  unfolding is_figure
  figure_to = go (is_whole word)
    where
      go : (t : Bool) → t && leb (whole_value word) 65535 ≡ true → t && leb (whole_value word) limit ≡ leb (whole_value word) limit
      go true e = refl
      go false e = absurd (false≢true e)

-- a minus sign stands first
pub minus_test : (word : List ℕ) → pointwise eqb (take 1 word) (45 ∷ []) ≡ true → is_value word ≡ whole_to 32768 (drop 1 word)
unfolding is_value
minus_test [] e = absurd (false≢true e)
minus_test (byte ∷ word) e = go (eqb byte 45) e
  where
    go : (t : Bool) → t && true ≡ true → cond t (whole_to 32768 word) (whole_to 32767 (byte ∷ word)) ≡ whole_to 32768 word
    go true e = refl
    go false e = absurd (false≢true e)

pub minus_value : (word : List ℕ) → pointwise eqb (take 1 word) (45 ∷ []) ≡ true → signed_value word ≡ neg_ℤ (pos (whole_value (drop 1 word)))
unfolding signed_value
minus_value [] e = absurd (false≢true e)
minus_value (byte ∷ word) e = go (eqb byte 45) e
  where
    go : (t : Bool) → t && true ≡ true
        → cond t (neg_ℤ (pos (whole_value word))) (pos (whole_value (byte ∷ word))) ≡ neg_ℤ (pos (whole_value word))
    go true e = refl
    go false e = absurd (false≢true e)

-- none stands first
pub plain_test : (word : List ℕ) → pointwise eqb (take 1 word) (45 ∷ []) ≡ false → is_value word ≡ whole_to 32767 word
unfolding is_value
plain_test [] e = refl
plain_test (byte ∷ word) e = go (eqb byte 45) e
  where
    go : (t : Bool) → t && true ≡ false → cond t (whole_to 32768 word) (whole_to 32767 (byte ∷ word)) ≡ whole_to 32767 (byte ∷ word)
    go true e = absurd (false≢true (sym e))
    go false e = refl

pub plain_value : (word : List ℕ) → pointwise eqb (take 1 word) (45 ∷ []) ≡ false → signed_value word ≡ pos (whole_value word)
unfolding signed_value whole_value
plain_value [] e = refl
plain_value (byte ∷ word) e = go (eqb byte 45) e
  where
    go : (t : Bool) → t && true ≡ false
        → cond t (neg_ℤ (pos (whole_value word))) (pos (whole_value (byte ∷ word))) ≡ pos (whole_value (byte ∷ word))
    go true e = absurd (false≢true (sym e))
    go false e = refl

-- a number to 65,535 is not larger
pub figure_small : (word : List ℕ) → is_figure word ≡ true → whole_value word ≤ 65535
unfolding is_figure
figure_small word = go (is_whole word)
  where
    go : (t : Bool) → t && leb (whole_value word) 65535 ≡ true → whole_value word ≤ 65535
    go true e = leb-true (whole_value word) 65535 e
    go false e = absurd (false≢true e)

-- ---- 16 bits

pub minus_fits : (n : ℕ) → n ≤ 32768 → SFits w16 (neg_ℤ (pos n))
minus_fits zero h = record { sfits = omega arith }
minus_fits (suc n) h = record { sfits = omega arith }

pub minus_small : (n : ℕ) → SFits w16 (neg_ℤ (pos n)) → n ≤ 32768
minus_small zero f = omega arith
minus_small (suc n) f = omega (arith, f.sfits)

-- a size is negated in 32 bits
negative_fits : (n : ℕ) → n ≤ 65535 → SFits w32 (neg_ℤ (pos n))
negative_fits zero h = record { sfits = omega arith }
negative_fits (suc n) h = record { sfits = omega arith }

size_fits : (n : ℕ) → n ≤ 65535 → SFits w32 (pos n)
size_fits n h = record { sfits = omega arith }

pub negated : (n : ℕ) → n ≤ 65535 → (z : ℤ) → z ≡ pos n → to_z w32 (of_z w32 (pos 0 -ℤ to_z w32 (of_z w32 z))) ≡ neg_ℤ (pos n)
negated n h z e =
    let opposite : pos 0 -ℤ pos n ≡ neg_ℤ (pos n) = +ℤ_idl _ in
    rw (e, to_z-of_z (size_fits n h), opposite) (to_z-of_z (negative_fits n h))

-- ---- what a conversion that fails beyond 16 bits says of a word

converted : {E : Type 0} (r : Result ℤ E) {o : Option ℤ} {P Q : Type 0} {x y : ℤ} → o ≡ result_ok r → OkIff r P x → (P → Q) → (Q → P) → x ≡ y
    → SomeIff o Q y
converted (Ok z) e h to from same = rw e (to h.0, h.1 ∙ same)
converted (Err z) e h to from same = rw e (λ q. h (from q))

module _ {E : Type 0} (r : Result ℤ E) {o : Option ℤ} {z : ℤ} (e : o ≡ result_ok r) (h : OkIff r (SFits w16 z) z) (word : List ℕ) {n : ℕ} where
  -- of the digits after a minus sign
  pub minus_read : {digits : List ℕ} → pointwise eqb (take 1 word) (45 ∷ []) ≡ true → digits ≡ drop 1 word
      → (is_figure digits ≡ true) × (n ≡ whole_value digits) → z ≡ neg_ℤ (pos n) → SignedRead word o
  minus_read {digits} minus d size opposite =
      let test : is_value word ≡ leb n 32768 =
      minus_test word minus ∙ ap (whole_to 32768) (sym d) ∙ figure_to 32768 digits (omega arith) size.0 ∙ ap (λ (m : ℕ). leb m 32768) (sym size.1) in
      let value : neg_ℤ (pos n) ≡ signed_value word =
      ap (λ (m : ℕ). neg_ℤ (pos m)) (size.1 ∙ ap whole_value d) ∙ sym (minus_value word minus) in
      converted r e h
      (λ f. test ∙ le-leb n 32768 (minus_small n (rw opposite at f)))
      (λ t. rw opposite (minus_fits n (leb-true n 32768 (sym test ∙ t))))
      (opposite ∙ value)

  -- of a word without one
  pub plain_read : pointwise eqb (take 1 word) (45 ∷ []) ≡ false → (is_figure word ≡ true) × (n ≡ whole_value word) → z ≡ pos n → SignedRead word o
  plain_read plain size is =
      let test : is_value word ≡ leb n 32767 =
      plain_test word plain ∙ figure_to 32767 word (omega arith) size.0 ∙ ap (λ (m : ℕ). leb m 32767) (sym size.1) in
      converted r e h
      (λ f. test ∙ le-leb n 32767 (let g : SFits w16 (pos n) = rw is at f in omega (arith, g.sfits)))
      (λ t. rw is (record { sfits = omega (arith, leb-true n 32767 (sym test ∙ t)) }))
      (is ∙ ap pos size.1 ∙ sym (plain_value word plain))
