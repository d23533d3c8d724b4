-- Laws of `Appended`: nothing is appended, one byte is stored, one text is appended after another, and the end is within the buffer.
use Rattle.std.specs.Prelude.{◌≡◌, refl, List, [], ◌∷◌, ◌++◌, ℕ, ◌+◌, ◌≤◌, ◌<◌, length, take, set}
use Rattle.std.proofs.Common.{sym, ap, ◌∙◌, append-nil, append_assoc, add-one, arith, length-set, length-append, length-take, take-suc-set, drop-set-lt, drop-drop}
use Rattle.lines.specs.Writing.{Appended}

pub append_none : (at : ℕ) (xs : List ℕ) → Appended at [] xs xs at
append_none at xs = record { same_length = refl; ends = omega arith; shown = sym (append-nil _); after = refl }

pub append_byte : (at : ℕ) (xs : List ℕ) (b : ℕ) → at < length xs → Appended at (b ∷ []) xs (set xs at b) (at + 1)
append_byte at xs b l = record {
  same_length = length-set xs at b;
  ends = refl;
  shown = rw (add-one, take-suc-set);
  after = drop-set-lt (at + 1) xs at b (omega arith);
}

pub append_two : {at m e : ℕ} {a b xs ys zs : List ℕ} → Appended at a xs ys m → Appended m b ys zs e → Appended at (a ++ b) xs zs e
append_two {at} {m} {e} {a} {b} {xs} p q = record {
  same_length = q.same_length ∙ p.same_length;
  ends = omega (arith, p.ends, q.ends, length-append a b);
  shown = q.shown ∙ ap (λ (l : List ℕ). l ++ b) p.shown ∙ append_assoc (take at xs) a b;
  after = q.after ∙ simp (q.ends, ← drop-drop, p.after);
}

pub append-within : {e : ℕ} {text xs ys : List ℕ} → Appended 0 text xs ys e → e ≤ length ys
append-within {e} {text} {xs} {ys} p =
    let shown : length (take e ys) ≡ length text = ap length p.shown in omega (arith, shown, length-take e ys, p.ends)
