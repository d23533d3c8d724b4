-- Laws of places, of `table` and of `Written`: no store, one store, one more place of a run, a run after
-- another, two writes in a row, a part that was lent.
use Rattle.std.specs.Prelude.{◌≡◌, ◌⊎◌, List, [], ◌∷◌, ◌++◌, length, set, take, drop}
use Rattle.std.proofs.Math.Path.{refl, ap}
use Rattle.std.proofs.Common.{sym, ◌∙◌, inl, inr, ⊎_elim, append_assoc, append-nil, mul-le-mul_right, suc-mul, length-set, length-drop, ext_get_or, get_or-set_same, get_or-set_other, length-take-le, get_or-take, get_or-drop}
use Prim.Native.Nat.{ℕ, zero, suc, ◌+◌, ◌*◌, ◌-◌, ◌<◌, ◌≤◌}
use Rattle.std.proofs.Math.Decide.{ℕ_discrete, dec_lt}
use native.Mathlib.Omega.{arith}
use Rattle.std.proofs.Math.ListN.{get_or, length-append, get_or-append}
use Rattle.std.proofs.Math.Seq.{get_or-append-add}
use borrow.Rule.Slice.PartMut.{mid_of, put_mid, same_len_mid}
use Rattle.algebra.specs.Places.{table, Written, Run, Changed}

-- part k of n parts of one size ends within them
pub part_ends : (k n size : ℕ) → k < n → k * size + size ≤ n * size
part_ends k n size l = omega (arith, mul-le-mul_right size l, suc-mul k size)

module _ {A : Type 0} where
  pub length-table : (n : ℕ) (f : ℕ → A) → length (table n f) ≡ n
  unfolding table
  length-table zero f = refl
  length-table (suc n) f = length-append (table n f) (f n ∷ []) ∙ omega (arith, length-table n f)

  pub get_d_table : (d : A) (n : ℕ) (f : ℕ → A) (i : ℕ) → i < n → get_or (table n f) i d ≡ f i
  unfolding table
  get_d_table d zero f i l = absurd (omega arith)
  get_d_table d (suc n) f i l = go (ℕ_discrete i n) (λ k. get_d_table d n f i k)
    where
      go : Dec (i ≡ n) → (i < n → get_or (table n f) i d ≡ f i) → get_or (table n f ++ (f n ∷ [])) i d ≡ f i
      go (yes e) r =
          ap (λ k. get_or (table n f ++ (f n ∷ [])) k d) (omega (arith, length-table n f))
          ∙ get_or-append-add (table n f) (f n ∷ []) 0 d ∙ ap f (sym e)
      go (no h) r = get_or-append (table n f) (f n ∷ []) d i (omega (arith, length-table n f)) ∙ r (omega arith)

  -- a list is known by its length and its places
  pub table_of : (d : A) (n : ℕ) (f : ℕ → A) (xs : List A) → length xs ≡ n → ((i : ℕ) → i < n → get_or xs i d ≡ f i) → xs ≡ table n f
  table_of d n f xs e h =
      ext_get_or d xs (table n f) (e ∙ sym (length-table n f)) (λ i l. h i (omega arith) ∙ sym (get_d_table d n f i (omega arith)))

  pub table_same : (n : ℕ) {f g : ℕ → A} → ((i : ℕ) → i < n → f i ≡ g i) → table n f ≡ table n g
  unfolding table
  table_same zero h = refl
  table_same (suc n) {f} {g} h =
      let before : table n f ≡ table n g = table_same n (λ i l. h i (omega arith)) in
      rw (before, h n (omega arith))

  -- a table in two parts
  pub table-append : (m n : ℕ) (f : ℕ → A) → table (m + n) f ≡ table m f ++ table n (λ i. f (m + i))
  unfolding table
  table-append m zero f = let e : m + 0 ≡ m = omega arith in rw e (sym (append-nil (table m f)))
  table-append m (suc n) f =
      let e : m + suc n ≡ suc (m + n) = omega arith in
      rw (e, table-append m n f) (append_assoc (table m f) (table n (λ i. f (m + i))) (f (m + n) ∷ []))

-- a part of a list that was lent and came back
module _ {A : Type 0} (d : A) (xs ys : List A) (a k : ℕ) (le : a + k ≤ length xs) (len : length ys ≡ k) where
  front : length (take a xs) ≡ a
  front = length-take-le a xs (omega arith)

  pub get_d_put_mid : (i : ℕ) → i < k → get_or (put_mid a k xs ys) (a + i) d ≡ get_or ys i d
  get_d_put_mid i l =
      let e : a + i ≡ length (take a xs) + i = omega (arith, front) in
      ap (λ (p : ℕ). get_or (put_mid a k xs ys) p d) e
      ∙ get_or-append-add (take a xs) (ys ++ drop k (drop a xs)) i d
      ∙ get_or-append ys (drop k (drop a xs)) d i (omega arith)

  -- the places before it and after it are as they were
  pub get_d_put_mid_before : (p : ℕ) → p < a → get_or (put_mid a k xs ys) p d ≡ get_or xs p d
  get_d_put_mid_before p l = get_or-append (take a xs) (ys ++ drop k (drop a xs)) d p (omega (arith, front)) ∙ get_or-take a xs p d l

  pub get_d_put_mid_after : (p : ℕ) → a + k ≤ p → get_or (put_mid a k xs ys) p d ≡ get_or xs p d
  get_d_put_mid_after p l =
      let s : ℕ = p - (a + k) in
      let e : p ≡ length (take a xs) + (length ys + s) = omega (arith, front) in
      let b : a + (k + s) ≡ p = omega arith in
      ap (λ (i : ℕ). get_or (put_mid a k xs ys) i d) e
      ∙ get_or-append-add (take a xs) (ys ++ drop k (drop a xs)) (length ys + s) d
      ∙ get_or-append-add ys (drop k (drop a xs)) s d
      ∙ get_or-drop k (drop a xs) s d ∙ get_or-drop a xs (k + s) d ∙ ap (λ (i : ℕ). get_or xs i d) b

module _ {A : Type 0} {d : A} where
  -- no place is written
  pub written_nothing : {P : ℕ → Type 0} {v : ℕ → A} {xs : List A} → ((p : ℕ) → P p → ⊥) → Written d P v xs xs
  written_nothing none = record { same_length = refl; here = λ p l h. absurd (none p h); kept = λ p h. refl }

  -- one store
  pub written_one : {v : ℕ → A} {xs : List A} (i : ℕ) (x : A) → i < length xs → x ≡ v i → Written d (λ p. p ≡ i) v xs (set xs i x)
  written_one {v} {xs} i x l e = record {
    same_length = length-set xs i x;
    here = λ p lp h. ap (λ (k : ℕ). get_or (set xs i x) k d) h ∙ get_or-set_same xs i x d l ∙ e ∙ ap v (sym h);
    kept = λ p out. get_or-set_other xs i p x d out;
  }

  -- the same places and values by other names; the old name needs to follow only within the list
  pub written_as : {P Q : ℕ → Type 0} {u v : ℕ → A} {xs ys : List A} → Written d P u xs ys
      → ((p : ℕ) → p < length xs → Q p → P p) → ((p : ℕ) → P p → Q p) → ((p : ℕ) → p < length xs → Q p → u p ≡ v p) → Written d Q v xs ys
  written_as w to back same = record {
    same_length = w.same_length;
    here = λ p l h. w.here p l (to p l h) ∙ same p l h;
    kept = λ p out. w.kept p (λ h. out (back p h));
  }

  -- two writes in a row; the second one's places win
  pub written_again : {P Q R : ℕ → Type 0} {v : ℕ → A} {xs ys zs : List A} → Written d P v xs ys → Written d Q v ys zs
      → ((p : ℕ) → p < length xs → R p → (P p × (Q p → ⊥)) ⊎ Q p) → ((p : ℕ) → P p → R p) → ((p : ℕ) → Q p → R p) → Written d R v xs zs
  written_again a b to left right = record {
    same_length = b.same_length ∙ a.same_length;
    here = λ p l h. ⊎_elim (λ w. b.kept p w.1 ∙ a.here p l w.0) (λ w. b.here p (omega (arith, a.same_length)) w) (to p l h);
    kept = λ p out. b.kept p (λ h. out (right p h)) ∙ a.kept p (λ h. out (left p h));
  }

  -- a run, one place longer
  pub written_longer : {v : ℕ → A} {xs ys : List A} (at i : ℕ) (x : A) → at + i < length xs → Written d (Run at i) v xs ys → x ≡ v (at + i)
      → Written d (Run at (i + 1)) v xs (set ys (at + i) x)
  written_longer at i x l w e =
      written_again w (written_one (at + i) x (omega (arith, w.same_length)) e) (λ p l h. to p h) (λ p h. (h.0, omega arith)) (λ p h. (omega arith, omega arith))
    where
      to : (p : ℕ) → Run at (i + 1) p → (Run at i p × (p ≡ at + i → ⊥)) ⊎ (p ≡ at + i)
      to p h = go (ℕ_discrete p (at + i))
        where
          go : Dec (p ≡ at + i) → (Run at i p × (p ≡ at + i → ⊥)) ⊎ (p ≡ at + i)
          go (yes e) = inr e
          go (no n) = inl ((h.0, omega arith), n)

  -- a run, and another from where it ends
  pub written_further : {v : ℕ → A} {xs ys zs : List A} (at n k : ℕ) {next : ℕ} → next ≡ at + n → Written d (Run at n) v xs ys → Written d (Run next k) v ys zs
      → Written d (Run at (n + k)) v xs zs
  written_further at n k {next} e a b = written_again a b (λ p l h. to p h (dec_lt p next)) (λ p h. (h.0, omega arith)) (λ p h. (omega arith, omega arith))
    where
      to : (p : ℕ) → Run at (n + k) p → Dec (p < next) → (Run at n p × (Run next k p → ⊥)) ⊎ Run next k p
      to p h (yes l) = inl ((h.0, omega arith), λ r. omega arith)
      to p h (no m) = inr (omega arith, omega arith)

  -- a part of the list that was lent and came back
  pub written_part : {P : ℕ → Type 0} {v : ℕ → A} {xs ys : List A} (a k : ℕ) → a + k ≤ length xs → Written d P v (mid_of a k xs) ys
      → Written d (λ p. (Run a k p) × P (p - a)) (λ p. v (p - a)) xs (put_mid a k xs ys)
  written_part {P} {v} {xs} {ys} a k le w = record {
    same_length = same_len_mid a k xs ys w.same_length;
    here = λ p l h. inner p h.0 ∙ w.here (p - a) (omega (arith, part)) h.1;
    kept = λ p out. go p out (dec_lt p a) (dec_lt p (a + k));
  }
    where
      part : length (mid_of a k xs) ≡ k
      part = length-take-le k (drop a xs) (omega (arith, length-drop a xs))

      len : length ys ≡ k
      len = w.same_length ∙ part

      inner : (p : ℕ) → Run a k p → get_or (put_mid a k xs ys) p d ≡ get_or ys (p - a) d
      inner p h =
          let e : p ≡ a + (p - a) = omega arith in
          ap (λ (i : ℕ). get_or (put_mid a k xs ys) i d) e ∙ get_d_put_mid d xs ys a k le len (p - a) (omega arith)

      go : (p : ℕ) → ((Run a k p) × P (p - a) → ⊥) → Dec (p < a) → Dec (p < a + k) → get_or (put_mid a k xs ys) p d ≡ get_or xs p d
      go p out (no h) (yes l) =
          let e : a + (p - a) ≡ p = omega arith in
          inner p (omega arith, l) ∙ w.kept (p - a) (λ x. out ((omega arith, l), x))
          ∙ get_or-take k (drop a xs) (p - a) d (omega arith) ∙ get_or-drop a xs (p - a) d ∙ ap (λ (i : ℕ). get_or xs i d) e
      go p out (yes h) _ = get_d_put_mid_before d xs ys a k le len p h
      go p out (no h) (no l) = get_d_put_mid_after d xs ys a k le len p (omega arith)

-- ---- changes between two places

module _ {A : Type 0} {d : A} where
  pub changed_nothing : {from to : ℕ} {xs : List A} → Changed d from to xs xs
  changed_nothing = record { same_length = refl; before = λ p l. refl; after = λ p l. refl }

  -- a part that was lent and came back
  pub changed_part : (xs ys : List A) (a k : ℕ) → a + k ≤ length xs → length ys ≡ k → Changed d a (a + k) xs (put_mid a k xs ys)
  changed_part xs ys a k le len = record {
    same_length = same_len_mid a k xs ys (len ∙ sym (length-take-le k (drop a xs) (omega (arith, length-drop a xs))));
    before = get_d_put_mid_before d xs ys a k le len;
    after = get_d_put_mid_after d xs ys a k le len;
  }

  -- a write
  pub changed_written : {v : ℕ → A} {xs ys : List A} (at count : ℕ) → Written d (Run at count) v xs ys → Changed d at (at + count) xs ys
  changed_written at count w = record { same_length = w.same_length; before = λ p l. w.kept p (λ h. omega arith); after = λ p l. w.kept p (λ h. omega arith) }

  -- two changes in a row
  pub changed_again : {xs ys zs : List A} {a b c e : ℕ} (from to : ℕ) → from ≤ a → from ≤ c → b ≤ to → e ≤ to
      → Changed d a b xs ys → Changed d c e ys zs → Changed d from to xs zs
  changed_again from to la lc lb le one two = record {
    same_length = two.same_length ∙ one.same_length;
    before = λ p l. two.before p (omega arith) ∙ one.before p (omega arith);
    after = λ p l. two.after p (omega arith) ∙ one.after p (omega arith);
  }
