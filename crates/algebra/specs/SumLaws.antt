-- Laws of finite sums. Each is stated once, for every commutative addition; `naturals` and `integers` are the two additions in use.
-- Rests on the definitions of Sum alone.
use Rattle.std.specs.Prelude.{◌≡◌, refl, ◌≢◌, ℕ, zero, suc, ◌+◌, ◌*◌, ◌-◌, ◌<◌, ◌≤◌, ℤ, pos, ◌+ℤ◌}
use Rattle.std.proofs.Common.{sym, ap, ap₂, ◌∙◌, zero-add, add-zero, add-suc, add_assoc, add_comm, mul-zero, mul-add, add-mul, zero-mul, suc-mul, arith}
use Rattle.std.proofs.Math.Decide.{ℕ_discrete}
use Rattle.std.proofs.Math.IntN.{+ℤ_idl, +ℤ_assoc, +ℤ_comm}
use Rattle.algebra.specs.Sum.{sum, sum_z}

-- a commutative addition, and the sums that it makes
pub record Addition (A : Type 0) : Type 0 where
  pub none : A
  pub plus : A → A → A
  pub total : ℕ → (ℕ → A) → A
  pub plus_none : (x : A) → plus none x ≡ x
  pub plus_assoc : (x y z : A) → plus (plus x y) z ≡ plus x (plus y z)
  pub plus_comm : (x y : A) → plus x y ≡ plus y x
  pub total_none : (f : ℕ → A) → total 0 f ≡ none
  pub total_last : (n : ℕ) (f : ℕ → A) → total (suc n) f ≡ plus (total n f) (f n)

pub sum_none : (f : ℕ → ℕ) → sum 0 f ≡ 0
unfolding sum
sum_none f = refl

pub sum_last : (n : ℕ) (f : ℕ → ℕ) → sum (suc n) f ≡ sum n f + f n
unfolding sum
sum_last n f = refl

pub sum_z_none : (f : ℕ → ℤ) → sum_z 0 f ≡ pos 0
unfolding sum_z
sum_z_none f = refl

pub sum_z_last : (n : ℕ) (f : ℕ → ℤ) → sum_z (suc n) f ≡ sum_z n f +ℤ f n
unfolding sum_z
sum_z_last n f = refl

abbrev pub naturals : Addition ℕ
naturals = record {
  none = 0;
  plus = ◌+◌;
  total = sum;
  plus_none = zero-add;
  plus_assoc = add_assoc;
  plus_comm = add_comm;
  total_none = sum_none;
  total_last = sum_last;
}

abbrev pub integers : Addition ℤ
integers = record {
  none = pos 0;
  plus = ◌+ℤ◌;
  total = sum_z;
  plus_none = +ℤ_idl;
  plus_assoc = +ℤ_assoc;
  plus_comm = +ℤ_comm;
  total_none = sum_z_none;
  total_last = sum_z_last;
}

-- a function that respects addition goes inside a sum
pub sum-map : {A B : Type 0} (S : Addition A) (T : Addition B) (h : A → B) → h S.none ≡ T.none
    → ((x y : A) → h (S.plus x y) ≡ T.plus (h x) (h y)) → (n : ℕ) (f : ℕ → A) → T.total n (λ i. h (f i)) ≡ h (S.total n f)
sum-map S T h h-none h-plus zero f = T.total_none (λ i. h (f i)) ∙ sym (ap h (S.total_none f) ∙ h-none)
sum-map S T h h-none h-plus (suc n) f =
    T.total_last n (λ i. h (f i)) ∙ ap (λ z. T.plus z (h (f n))) (sum-map S T h h-none h-plus n f)
    ∙ sym (ap h (S.total_last n f) ∙ h-plus (S.total n f) (f n))

module _ {A : Type 0} (S : Addition A) where
  pub plus_none_right : (x : A) → S.plus x S.none ≡ x
  plus_none_right x = S.plus_comm x S.none ∙ S.plus_none x

  -- (x + y) + (z + w) = (x + z) + (y + w)
  pub plus_exchange : (x y z w : A) → S.plus (S.plus x y) (S.plus z w) ≡ S.plus (S.plus x z) (S.plus y w)
  plus_exchange x y z w =
      S.plus_assoc x y (S.plus z w)
      ∙ ap (S.plus x) (sym (S.plus_assoc y z w) ∙ ap (λ a. S.plus a w) (S.plus_comm y z) ∙ S.plus_assoc z y w)
      ∙ sym (S.plus_assoc x z (S.plus y w))

  -- equal summands make equal sums
  pub sum_cong : (n : ℕ) (f g : ℕ → A) → ((i : ℕ) → i < n → f i ≡ g i) → S.total n f ≡ S.total n g
  sum_cong zero f g h = S.total_none f ∙ sym (S.total_none g)
  sum_cong (suc n) f g h =
      S.total_last n f ∙ ap₂ S.plus (sum_cong n f g (λ i l. h i (omega arith))) (h n (omega arith)) ∙ sym (S.total_last n g)

  pub sum_zero : (n : ℕ) (f : ℕ → A) → ((i : ℕ) → i < n → f i ≡ S.none) → S.total n f ≡ S.none
  sum_zero zero f h = S.total_none f
  sum_zero (suc n) f h = S.total_last n f ∙ ap₂ S.plus (sum_zero n f (λ i l. h i (omega arith))) (h n (omega arith)) ∙ S.plus_none S.none

  pub sum_add : (n : ℕ) (f g : ℕ → A) → S.total n (λ i. S.plus (f i) (g i)) ≡ S.plus (S.total n f) (S.total n g)
  sum_add zero f g =
      S.total_none (λ i. S.plus (f i) (g i)) ∙ sym (ap₂ S.plus (S.total_none f) (S.total_none g) ∙ S.plus_none S.none)
  sum_add (suc n) f g =
      S.total_last n (λ i. S.plus (f i) (g i)) ∙ ap (λ z. S.plus z (S.plus (f n) (g n))) (sum_add n f g)
      ∙ plus_exchange (S.total n f) (S.total n g) (f n) (g n) ∙ sym (ap₂ S.plus (S.total_last n f) (S.total_last n g))

  -- two sums change places
  pub sum_swap : (a b : ℕ) (f : ℕ → ℕ → A) → S.total a (λ i. S.total b (λ j. f i j)) ≡ S.total b (λ j. S.total a (λ i. f i j))
  sum_swap zero b f = S.total_none (λ i. S.total b (λ j. f i j)) ∙ sym (sum_zero b _ (λ j l. S.total_none (λ i. f i j)))
  sum_swap (suc a) b f =
      S.total_last a (λ i. S.total b (λ j. f i j)) ∙ ap (λ z. S.plus z (S.total b (f a))) (sum_swap a b f)
      ∙ sym (sum_add b (λ j. S.total a (λ i. f i j)) (f a)) ∙ sum_cong b _ _ (λ j l. sym (S.total_last a (λ i. f i j)))

  -- a sum in two parts
  pub sum_split : (a b : ℕ) (f : ℕ → A) → S.total (a + b) f ≡ S.plus (S.total a f) (S.total b (λ i. f (a + i)))
  sum_split a zero f = ap (λ n. S.total n f) (add-zero a) ∙ sym (ap (S.plus (S.total a f)) (S.total_none (λ i. f (a + i))) ∙ plus_none_right (S.total a f))
  sum_split a (suc b) f =
      ap (λ n. S.total n f) (add-suc a b) ∙ S.total_last (a + b) f ∙ ap (λ z. S.plus z (f (a + b))) (sum_split a b f)
      ∙ S.plus_assoc (S.total a f) (S.total b (λ i. f (a + i))) (f (a + b)) ∙ ap (S.plus (S.total a f)) (sym (S.total_last b (λ i. f (a + i))))

  -- summands that are none from n on change nothing
  pub sum_short : (n m : ℕ) (f : ℕ → A) → n ≤ m → ((i : ℕ) → n ≤ i → i < m → f i ≡ S.none) → S.total m f ≡ S.total n f
  sum_short n m f l none =
      let rest : m ≡ n + (m - n) = omega arith in
      ap (λ k. S.total k f) rest ∙ sum_split n (m - n) f
      ∙ ap (S.plus (S.total n f)) (sum_zero (m - n) _ (λ i k. none (n + i) (omega arith) (omega arith))) ∙ plus_none_right (S.total n f)

  -- a sum over a rows of b is a sum over flat places
  pub sum_flat : (a b : ℕ) (f : ℕ → A) → S.total a (λ i. S.total b (λ j. f (i * b + j))) ≡ S.total (a * b) f
  sum_flat zero b f = S.total_none _ ∙ sym (ap (λ n. S.total n f) (zero-mul b) ∙ S.total_none f)
  sum_flat (suc a) b f =
      S.total_last a _ ∙ ap (λ z. S.plus z (S.total b (λ j. f (a * b + j)))) (sum_flat a b f)
      ∙ sym (ap (λ n. S.total n f) (suc-mul a b) ∙ sum_split (a * b) b f)

  -- the first summand apart
  pub sum_first : (n : ℕ) (f : ℕ → A) → S.total (suc n) f ≡ S.plus (f 0) (S.total n (λ i. f (suc i)))
  sum_first zero f = S.total_last 0 f ∙ S.plus_comm (S.total 0 f) (f 0) ∙ ap (S.plus (f 0)) (S.total_none f ∙ sym (S.total_none (λ i. f (suc i))))
  sum_first (suc n) f =
      S.total_last (suc n) f ∙ ap (λ z. S.plus z (f (suc n))) (sum_first n f)
      ∙ S.plus_assoc (f 0) (S.total n (λ i. f (suc i))) (f (suc n)) ∙ ap (S.plus (f 0)) (sym (S.total_last n (λ i. f (suc i))))

  -- a sum from its last summand back
  pub sum_reverse : (n : ℕ) (f : ℕ → A) → S.total n f ≡ S.total n (λ i. f (n - 1 - i))
  sum_reverse zero f = S.total_none f ∙ sym (S.total_none _)
  sum_reverse (suc n) f =
      S.total_last n f ∙ S.plus_comm (S.total n f) (f n)
      ∙ ap₂ S.plus (ap f (omega arith)) (sum_reverse n f ∙ sum_cong n _ _ (λ i l. ap f (omega arith)))
      ∙ sym (sum_first n (λ i. f (suc n - 1 - i)))

  -- a sum over the even and the odd places
  pub sum_even_odd : (n : ℕ) (f : ℕ → A) → S.total (2 * n) f ≡ S.plus (S.total n (λ i. f (2 * i))) (S.total n (λ i. f (2 * i + 1)))
  sum_even_odd zero f = S.total_none f ∙ sym (ap₂ S.plus (S.total_none _) (S.total_none _) ∙ S.plus_none S.none)
  sum_even_odd (suc n) f =
      ap (λ k. S.total k f) (twice n) ∙ S.total_last (suc (2 * n)) f
      ∙ ap (λ z. S.plus z (f (suc (2 * n)))) (S.total_last (2 * n) f ∙ ap (λ z. S.plus z (f (2 * n))) (sum_even_odd n f))
      ∙ S.plus_assoc (S.plus evens odds) (f (2 * n)) (f (suc (2 * n)))
      ∙ plus_exchange evens odds (f (2 * n)) (f (suc (2 * n)))
      ∙ sym (ap₂ S.plus (S.total_last n (λ i. f (2 * i))) (S.total_last n (λ i. f (2 * i + 1)) ∙ ap (λ k. S.plus odds (f k)) (next n)))
    where
      evens : A
      evens = S.total n (λ i. f (2 * i))

      odds : A
      odds = S.total n (λ i. f (2 * i + 1))

      twice : (n : ℕ) → 2 * suc n ≡ suc (suc (2 * n))
      twice n = omega arith

      next : (n : ℕ) → 2 * n + 1 ≡ suc (2 * n)
      next n = omega arith

  -- a sum all of whose summands but the k-th are zero
  pub sum_single : (n k : ℕ) (f : ℕ → A) → k < n → ((i : ℕ) → i < n → i ≢ k → f i ≡ S.none) → S.total n f ≡ f k
  sum_single zero k f l h = absurd (omega arith)
  sum_single (suc n) k f l h = S.total_last n f ∙ go (ℕ_discrete n k) (λ p. sum_single n k f p (λ i q. h i (omega arith)))
    where
      go : Dec (n ≡ k) → (k < n → S.total n f ≡ f k) → S.plus (S.total n f) (f n) ≡ f k
      go (yes e) r = ap₂ S.plus (sum_zero n f (λ i p. h i (omega arith) (omega arith))) (ap f e) ∙ S.plus_none (f k)
      go (no d) r = ap₂ S.plus (r (omega arith)) (h n (omega arith) d) ∙ plus_none_right (f k)

  -- a sum over one period does not depend on where the period starts
  pub sum_shift : (n c : ℕ) (f : ℕ → A) → ((i : ℕ) → f (i + n) ≡ f i) → S.total n (λ i. f (i + c)) ≡ S.total n f
  sum_shift zero c f h = S.total_none (λ i. f (i + c)) ∙ sym (S.total_none f)
  sum_shift (suc n) zero f h = sum_cong (suc n) _ f (λ i l. ap f (add-zero i))
  sum_shift (suc n) (suc c) f h =
      S.total_last n (λ i. f (i + suc c))
      ∙ ap₂ S.plus (sum_cong n _ (λ i. f (suc i + c)) (λ i l. ap f (omega arith))) (ap f (comm n c) ∙ h c)
      ∙ S.plus_comm (S.total n (λ i. f (suc i + c))) (f c) ∙ ap (λ k. S.plus (f k) (S.total n (λ i. f (suc i + c)))) (sym (zero-add c))
      ∙ sym (sum_first n (λ i. f (i + c))) ∙ sum_shift (suc n) c f h
    where
      comm : (n c : ℕ) → n + suc c ≡ c + suc n
      comm n c = omega arith

-- a factor goes before a sum, on either side
pub sum_mul : (n c : ℕ) (f : ℕ → ℕ) → sum n (λ i. c * f i) ≡ c * sum n f
sum_mul n c f = sum-map naturals naturals (λ x. c * x) (mul-zero c) (mul-add c) n f

pub sum_mul_right : (n c : ℕ) (f : ℕ → ℕ) → sum n (λ i. f i * c) ≡ sum n f * c
sum_mul_right n c f = sum-map naturals naturals (λ x. x * c) (zero-mul c) (λ x y. add-mul x y c) n f

pub sum_const : (n c : ℕ) → sum n (λ i. c) ≡ n * c
sum_const zero c = sum_none (λ i. c) ∙ sym (zero-mul c)
sum_const (suc n) c = sum_last n (λ i. c) ∙ omega (arith, sum_const n c)

-- smaller summands make a smaller sum
pub sum_le : (n : ℕ) (f g : ℕ → ℕ) → ((i : ℕ) → i < n → f i ≤ g i) → sum n f ≤ sum n g
sum_le zero f g h = omega (arith, sum_none f)
sum_le (suc n) f g h = omega (arith, sum_last n f, sum_last n g, sum_le n f g (λ i l. h i (omega arith)), h n (omega arith))
