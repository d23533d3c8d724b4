-- Laws of the table: a test that antt computes over a whole list, the rule that it proves at each place, the entry at k as a power. They rest on
-- the laws of congruence. What holds of the root itself is in proofs/RootLaws.
use Rattle.std.specs.Prelude.{◌≡◌, Bool, true, false, ◌&&◌, List, [], ◌∷◌, ℕ, zero, suc, ◌*◌, ◌%◌, ◌^◌, ◌<◌, T, eqb, length, get_or}
use Rattle.std.proofs.Common.{sym, ap, ◌∙◌, pow-suc, mod-lt, add-one, arith, eqb→eq}
use Rattle.std.proofs.Math.Nat.{pow-zero}
use Rattle.algebra.specs.Congruence.{Cong}
use Rattle.algebra.specs.CongruenceLaws.{c_eq, c_mod, c_mul, c_refl, ◌⨟◌, c_via}
use Rattle.row.specs.Powers.{Powers}

-- ---- the test of a table

-- each entry is the one before it, p before the first, times r modulo m
abbrev pub chained : (m r p : ℕ) → List ℕ → Bool
chained m r p [] = true
chained m r p (x ∷ xs) = eqb x ((p * r) % m) && chained m r x xs

-- a whole table: it starts with 1, and each entry is the one before it times r
abbrev pub powered : (m r : ℕ) → List ℕ → Bool
powered m r [] = false
powered m r (x ∷ xs) = eqb x 1 && chained m r x xs

and_left : (a b : Bool) → T (a && b) → T a
and_left true b t = tt
and_left false b t = t

and_right : (a b : Bool) → T (a && b) → T b
and_right true b t = t
and_right false b t = absurd t

link : (m r p : ℕ) (xs : List ℕ) → T (chained m r p xs) → (k : ℕ) → k < length xs → get_or xs k 0 ≡ (get_or (p ∷ xs) k 0 * r) % m
link m r p [] t k h = absurd (omega arith)
link m r p (x ∷ xs) t zero h = eqb→eq x ((p * r) % m) (and_left (eqb x ((p * r) % m)) (chained m r x xs) t)
link m r p (x ∷ xs) t (suc k) h = link m r x xs (and_right (eqb x ((p * r) % m)) (chained m r x xs) t) k (omega arith)

-- the test proves the rule
pub powers_by : (m r n : ℕ) (xs : List ℕ) → length xs ≡ n → T (powered m r xs) → Powers m r n xs
powers_by m r n [] e t = absurd t
powers_by m r n (x ∷ xs) e t = record {
  size = e;
  first = eqb→eq x 1 (and_left (eqb x 1) (chained m r x xs) t);
  next = λ k h. rw (add-one k) (link m r x xs (and_right (eqb x 1) (chained m r x xs) t) k (omega (arith, e, add-one k)));
}

-- ---- the entries

-- the entry at k is r to the power k
pub power_at : {m r n : ℕ} {xs : List ℕ} → Powers m r n xs → (k : ℕ) → k < n → Cong m (get_or xs k 0) (r ^ k)
power_at {m} {r} p zero h = c_eq (p.first ∙ sym (pow-zero r))
power_at {m} {r} {n} {xs} p (suc k) h =
    c_via (ap (λ (i : ℕ). get_or xs i 0) (sym (add-one k)) ∙ p.next k (omega arith))
    (c_mod ⨟ c_mul (power_at p k (omega arith)) c_refl)
    (sym (pow-suc r k))

pub power_below : {m r n : ℕ} {xs : List ℕ} → Powers m r n xs → 1 < m → (k : ℕ) → k < n → get_or xs k 0 < m
power_below p some zero h = omega (arith, p.first)
power_below {m} {r} {n} {xs} p some (suc k) h =
    rw (sym (add-one k), p.next k (omega arith)) (mod-lt (get_or xs k 0 * r) (omega arith))
