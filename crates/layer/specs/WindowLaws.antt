-- A sum over the weights of a window is a sum over the places of the map, since each weight meets at most one place and each place at
-- most one weight. Both kinds of layer use this: CONV by a window on the map, TCONV by a window on the map spread by the stride. It rests on
-- the laws of sums.
use Rattle.std.specs.Prelude.{◌≡◌, refl, Bool, true, false, ◌&&◌, List, ℕ, ◌+◌, ◌*◌, ◌-◌, ◌/◌, ◌%◌, ◌<◌, ◌≤◌, T, leb, ltb, eqb, ℤ, pos, ◌*ℤ◌}
use Rattle.std.proofs.Common.{sym, ap, ◌∙◌, div-add-mod', mul-div_cancel, arith, leb→le, le→leb, ltb→lt, lt→ltb, eqb→eq}
use Rattle.std.proofs.Math.Nat.{mul-mod_left}
use Rattle.std.proofs.Math.Facts.{and_yes, yes_and}
use Rattle.std.proofs.Math.Dec.{eqb_refl}
use Rattle.std.proofs.Math.IntN.{*ℤ-zero, *ℤ_comm}
use Rattle.algebra.specs.Planes.{cell}
use Rattle.algebra.specs.Sum.{sum_z}
use Rattle.algebra.specs.SumLaws.{integers, sum_cong, sum_zero, sum_single, sum_swap}
use Rattle.layer.specs.Windows.{spread}
use Rattle.layer.specs.Direct.{when, within, shifted}

-- ---- a value under a test

pub when_yes : (test : Bool) (z : ℤ) → T test → when test z ≡ z
when_yes true z t = refl
when_yes false z t = absurd t

pub when_no : (test : Bool) (z : ℤ) → (T test → ⊥) → when test z ≡ pos 0
when_no true z f = absurd (f tt)
when_no false z f = refl

pub mul_when : (test : Bool) (x z : ℤ) → x *ℤ when test z ≡ when test (x *ℤ z)
mul_when true x z = refl
mul_when false x z = *ℤ-zero x

pub sum-when : (n : ℕ) (test : Bool) (f : ℕ → ℤ) → sum_z n (λ i. when test (f i)) ≡ when test (sum_z n f)
sum-when n true f = refl
sum-when n false f = sum_zero integers n (λ i. pos 0) (λ i l. refl)

-- the test holds of `at` where `found` does, and of no other number below n
pub sum_pick : (n : ℕ) (test : ℕ → Bool) (found : Bool) (at : ℕ) (f : ℕ → ℤ) → (T found → (at < n) × T (test at))
    → ((i : ℕ) → i < n → T (test i) → T found × (at ≡ i)) → sum_z n (λ i. when (test i) (f i)) ≡ when found (f at)
sum_pick n test true at f there only =
    sum_single integers n at _ (there tt).0 (λ i l d. when_no (test i) (f i) (λ t. d (sym (only i l t).1)))
    ∙ when_yes (test at) (f at) (there tt).1
sum_pick n test false at f there only = sum_zero integers n _ (λ i l. when_no (test i) (f i) (λ t. (only i l t).0))

-- ---- the exchange

-- The numbers a below K that pass `left` and the numbers i below H that pass `right` are matched one to one: a with `to a`, i with `from i`.
pub record Matching (K H : ℕ) (left : ℕ → Bool) (to : ℕ → ℕ) (right : ℕ → Bool) (from : ℕ → ℕ) : Type 0 where
  pub forth : (a : ℕ) → a < K → T (left a) → (to a < H) × T (right (to a)) × (from (to a) ≡ a)
  pub back : (i : ℕ) → i < H → T (right i) → (from i < K) × T (left (from i)) × (to (from i) ≡ i)

module _ {K H : ℕ} {left right : ℕ → Bool} {to from : ℕ → ℕ} (matching : Matching K H left to right from) where
  pub exchange : (f : ℕ → ℕ → ℤ) → sum_z K (λ a. when (left a) (f a (to a))) ≡ sum_z H (λ i. when (right i) (f (from i) i))
  exchange f =
      sum_cong integers K _ _ (λ a l. sym (of_left a l))
      ∙ sum_swap integers K H (λ a i. when (pair a i) (f a i))
      ∙ sum_cong integers H _ _ (λ i l. of_right i l)
    where
      -- a is matched with i
      pair : ℕ → ℕ → Bool
      pair a i = left a && eqb (to a) i

      pair_is : (a i : ℕ) → T (pair a i) → T (left a) × (to a ≡ i)
      pair_is a i t =
          let both : T (left a) × T (eqb (to a) i) = and_yes (left a) (eqb (to a) i) t in
          (both.0, eqb→eq (to a) i both.1)

      pair_yes : (a i : ℕ) → T (left a) → to a ≡ i → T (pair a i)
      pair_yes a i t e = yes_and (left a) (eqb (to a) i) t (rw e (eqb_refl i))

      of_left : (a : ℕ) → a < K → sum_z H (λ i. when (pair a i) (f a i)) ≡ when (left a) (f a (to a))
      of_left a l =
          sum_pick H (pair a) (left a) (to a) (f a) (λ t. ((matching.forth a l t).0, pair_yes a (to a) t refl)) (λ i k t. pair_is a i t)

      of_right : (i : ℕ) → i < H → sum_z K (λ a. when (pair a i) (f a i)) ≡ when (right i) (f (from i) i)
      of_right i l =
          sum_pick K (λ a. pair a i) (right i) (from i) (λ a. f a i) (λ t. there (matching.back i l t)) (λ a k t. only a k (pair_is a i t))
        where
          there : (from i < K) × T (left (from i)) × (to (from i) ≡ i) → (from i < K) × T (pair (from i) i)
          there (k, t, e) = (k, pair_yes (from i) i t e)

          only : (a : ℕ) → a < K → T (left a) × (to a ≡ i) → T (right i) × (from i ≡ a)
          only a k (t, e) = (rw e at (matching.forth a k t).1, rw e at (matching.forth a k t).2)

-- in two directions, of products: K by L values x against H by W values y
module _ {K H L W : ℕ} {left right left₂ right₂ : ℕ → Bool} {to from to₂ from₂ : ℕ → ℕ}
    (rows : Matching K H left to right from) (columns : Matching L W left₂ to₂ right₂ from₂) where
  pub exchange_product : (x y : ℕ → ℕ → ℤ)
      → sum_z K (λ a. sum_z L (λ b. x a b *ℤ when (left a) (when (left₂ b) (y (to a) (to₂ b)))))
      ≡ sum_z H (λ i. sum_z W (λ j. y i j *ℤ when (right i) (when (right₂ j) (x (from i) (from₂ j)))))
  exchange_product x y = simp (mul_when, sum-when) (sum_cong integers K _ _ in_row ∙ exchange rows row ∙ sum_cong integers H _ _ exchanged)
    where
      row : (a i : ℕ) → ℤ
      row a i = sum_z W (λ j. when (right₂ j) (x a (from₂ j) *ℤ y i j))

      in_row : (a : ℕ) → a < K → when (left a) (sum_z L (λ b. when (left₂ b) (x a b *ℤ y (to a) (to₂ b)))) ≡ when (left a) (row a (to a))
      in_row a l = ap (when (left a)) (exchange columns (λ b j. x a b *ℤ y (to a) j))

      exchanged : (i : ℕ) → i < H
          → when (right i) (row (from i) i) ≡ when (right i) (sum_z W (λ j. when (right₂ j) (y i j *ℤ x (from i) (from₂ j))))
      exchanged i l = ap (when (right i)) (sum_cong integers W _ _ (λ j k. ap (when (right₂ j)) (*ℤ_comm (x (from i) (from₂ j)) (y i j))))

-- ---- a window

pub within_is : (p n u : ℕ) → T (within p n u) → (p ≤ u) × (u - p < n)
within_is p n u t =
    let both : T (leb p u) × T (ltb (u - p) n) = and_yes (leb p u) (ltb (u - p) n) t in
    (leb→le p u both.0, ltb→lt (u - p) n both.1)

pub within_yes : (p n u : ℕ) → p ≤ u → u - p < n → T (within p n u)
within_yes p n u h k = yes_and (leb p u) (ltb (u - p) n) (le→leb p u h) (lt→ltb (u - p) n k)

-- a value inside its plane
pub shifted-cell : (A B : ℕ) (values : List ℤ) (k p u q v : ℕ) → p ≤ u → u - p < A → q ≤ v → v - q < B
    → shifted A B values k p u q v ≡ cell A B values k (u - p) (v - q)
shifted-cell A B values k p u q v row rowEnd column columnEnd =
    when_yes (within p A u) _ (within_yes p A u row rowEnd) ∙ when_yes (within q B v) _ (within_yes q B v column columnEnd)

-- a window of K places from s on, and H places from p on
pub window : (K H s p : ℕ) → Matching K H (λ a. within p H (s + a)) (λ a. s + a - p) (λ i. within s K (i + p)) (λ i. i + p - s)
window K H s p = record {
  forth = λ a l t. across a s K p H (s + a) (s + a - p + p) l t refl (λ h. omega arith);
  back = λ i l t. across i p H s K (i + p) (s + (i + p - s)) l t (omega arith) (λ h. omega arith);
}
  where
    -- u is q + x and v is u: from p on u lies within M, and from q on v is x
    across : (x q N p M u v : ℕ) → x < N → T (within p M u) → u ≡ q + x → (p ≤ u → v ≡ u) → (u - p < M) × T (within q N v) × (v - q ≡ x)
    across x q N p M u v l t e f =
        let h : (p ≤ u) × (u - p < M) = within_is p M u t in
        let same : v ≡ u = f h.0 in
        (h.1, within_yes q N v (omega arith) (omega arith), omega arith)

-- ---- a window on a map with S − 1 zeros between its values

pub spread_is : (S p n u : ℕ) → T (spread S p n u) → (p ≤ u) × ((u - p) % S ≡ 0) × ((u - p) / S < n)
unfolding spread
spread_is S p n u t =
    let one : T (leb p u) × T (eqb ((u - p) % S) 0 && ltb ((u - p) / S) n) = and_yes (leb p u) _ t in
    let two : T (eqb ((u - p) % S) 0) × T (ltb ((u - p) / S) n) = and_yes (eqb ((u - p) % S) 0) _ one.1 in
    (leb→le p u one.0, eqb→eq ((u - p) % S) 0 two.0, ltb→lt ((u - p) / S) n two.1)

-- u − p is eS
pub spread_yes : (S p n u e : ℕ) → p ≤ u → u - p ≡ e * S → 0 < S → e < n → T (spread S p n u)
unfolding spread
spread_yes S p n u e h q s l = rw (q, mul-mod_left e S, mul-div_cancel e s) (yes_and (leb p u) (ltb e n) (le→leb p u h) (lt→ltb e n l))

-- H places S apart, each with K weights from it on: at d, place e meets the weight d − eS
pub spaced_window : (K H S d : ℕ) → 0 < S
    → Matching H K (λ e. within (e * S) K d) (λ e. d - e * S) (λ a. spread S a H d) (λ a. (d - a) / S)
spaced_window K H S d s = record {
  forth = λ e l t. forth e l (within_is (e * S) K d t);
  back = λ a l t. back a l (spread_is S a H d t);
}
  where
    forth : (e : ℕ) → e < H → (e * S ≤ d) × (d - e * S < K) → (d - e * S < K) × T (spread S (d - e * S) H d) × ((d - (d - e * S)) / S ≡ e)
    forth e l (h, k) =
        let rest : d - (d - e * S) ≡ e * S = omega arith in
        (k, spread_yes S (d - e * S) H d e (omega arith) rest s l, rw (rest, mul-div_cancel e s))

    back : (a : ℕ) → a < K → (a ≤ d) × ((d - a) % S ≡ 0) × ((d - a) / S < H)
        → ((d - a) / S < H) × T (within ((d - a) / S * S) K d) × (d - (d - a) / S * S ≡ a)
    back a l (h, e, k) =
        let whole : (d - a) / S * S ≡ d - a = omega (arith, div-add-mod' (d - a) S) in
        rw whole (k, within_yes (d - a) K d (omega arith) (omega arith), omega arith)
