-- What the rows hold after each pass, at any root, and that one more pass keeps it so. Rows are a function of their index. It rests on the law by
-- halving, which makes a transform of two of half the length, in every block of a pass.
-- Forward, after p passes there are 2 ^ p blocks: block `reversed p k` has as its own transform, at the root to the power 2 ^ p, the entries
-- k, k + 2 ^ p, k + 2 · 2 ^ p .. of the whole. Inverse, after p passes each block of 2 ^ p rows is the transform of the rows lent there.
use Rattle.std.specs.Prelude.{◌≡◌, refl, ℕ, zero, suc, ◌+◌, ◌-◌, ◌*◌, ◌/◌, ◌%◌, ◌^◌, ◌<◌}
use Rattle.std.proofs.Common.{sym, ap, ap₂, ◌∙◌, zero-mul, mul_comm, arith}
use Rattle.std.proofs.Math.Nat.{two-pow-succ, pow-zero}
use Rattle.std.proofs.Math.Decide.{dec_lt}
use Rattle.std.specs.Int.Count.{count_trailing_zeros}
use Rattle.algebra.specs.SumLaws.{sum_none, sum_last}
use Rattle.algebra.specs.PowerLaws.{pow_mul, pow_one}
use Rattle.algebra.specs.Congruence.{Cong}
use Rattle.algebra.specs.CongruenceLaws.{c_eq, c_refl, c_sym, ◌⨟◌, c_via, c_add, c_mul}
use Rattle.fermat.specs.Transform.{power_sum}
use Rattle.fermat.specs.TransformLaws.{c_power_sum}
use Rattle.fermat.specs.HalvingLaws.{evens, odds, halve_low, halve_high, by_sums, by_differences}
use Rattle.passes.specs.Order.{reversed}
use Rattle.passes.specs.OrderLaws.{reversed_top, reversed_lt, reversed_even, reversed_odd}
use Rattle.passes.specs.Butterfly.{Parted, Joined}
use Rattle.passes.specs.Passes.{passes, EachBlock}

-- ---- how many passes

-- a power of 2 has as many trailing zero bits as its exponent says
trailing_power : (k l : ℕ) → l < k → count_trailing_zeros k (2 ^ l) ≡ l
unfolding count_trailing_zeros
trailing_power zero l h = absurd (omega arith)
trailing_power (suc k) zero h = refl
trailing_power (suc k) (suc l) h =
    let rest : 2 ^ suc l % 2 ≡ 0 = omega (arith, two-pow-succ l) in
    let half : 2 ^ suc l / 2 ≡ 2 ^ l = omega (arith, two-pow-succ l) in
    rw (rest, half) (ap suc (trailing_power k l (omega arith)))

pub passes_power : {n l : ℕ} → n ≡ 2 ^ l → l < 64 → passes n ≡ l
passes_power {l = l} e h = rw e (trailing_power 64 l h)

-- ---- blocks and roots

-- the rows of block q, of s rows
abbrev pub block : (s q : ℕ) → (ℕ → ℕ) → ℕ → ℕ
block s q x r = x (q * s + r)

-- the first and the second half of block q are blocks 2 q and 2 q + 1 of half the length
pub first_half : (q h r : ℕ) → q * (2 * h) + r ≡ 2 * q * h + r
first_half q h r = omega arith

pub second_half : (q h r : ℕ) → q * (2 * h) + (h + r) ≡ (2 * q + 1) * h + r
second_half q h r = omega arith

-- the power r of the root of a pass over g blocks, where the root of the transform is a ^ unit
pub pass_root : (a unit g r : ℕ) → a ^ (unit * g * r) ≡ ((a ^ unit) ^ g) ^ r
pass_root a unit g r = pow_mul a (unit * g) r ∙ ap (λ (e : ℕ). e ^ r) (pow_mul a unit g)

-- a transform of length 1
power_sum_one : (w : ℕ) (x : ℕ → ℕ) (k : ℕ) → power_sum 1 w x k ≡ x 0
unfolding power_sum
power_sum_one w x k =
    sum_last 0 (λ j. x j * w ^ (j * k)) ∙ rw (sum_none (λ j. x j * w ^ (j * k)), zero-mul k, pow-zero w) (omega arith)

-- ---- forward

-- p passes have made y of x, and left blocks of s rows
pub record ForwardAfter (m n w p s : ℕ) (x y : ℕ → ℕ) : Type 0 where
  pub entry : (k e : ℕ) → k < 2 ^ p → e < s → Cong m (power_sum s (w ^ (2 ^ p)) (block s (reversed p k) y) e) (power_sum n w x (k + 2 ^ p * e))

pub forward_none : (m n w : ℕ) (x : ℕ → ℕ) → ForwardAfter m n w 0 n x x
unfolding reversed
forward_none m n w x = record {
  entry = λ k e lk le. c_via (ap (λ (v : ℕ). power_sum n v (block n 0 x) e) (pow_one w))
      (c_power_sum n w (block n 0 x) x e (λ r _. c_eq (ap x (omega (arith, zero-mul n))))) (ap (power_sum n w x) (omega arith));
}

pub forward_all : {m n w p : ℕ} {x y : ℕ → ℕ} → ForwardAfter m n w p 1 x y → (k : ℕ) → k < 2 ^ p → Cong m (y (reversed p k)) (power_sum n w x k)
forward_all {m} {n} {w} {p} {x} {y} all k lk =
    c_via (ap y (omega arith) ∙ sym (power_sum_one (w ^ (2 ^ p)) (block 1 (reversed p k) y) 0)) (all.entry k 0 lk (omega arith))
    (ap (power_sum n w x) (omega arith))

-- one pass more, where h is half the period of the root of the pass
module _ {m n w p e : ℕ} (h : ℕ) (minus : Cong m ((w ^ (2 ^ p)) ^ h + 1) 0) {x y z : ℕ → ℕ} (before : ForwardAfter m n w p (2 * h) x y)
    (parted : EachBlock (2 ^ p) h (λ r. Parted m e ((w ^ (2 ^ p)) ^ r)) y z) where
  abbrev v : ℕ
  v = w ^ (2 ^ p)

  even : (k f : ℕ) → k < 2 ^ p → f < h
      → Cong m (power_sum h (v ^ 2) (block h (2 * reversed p k) z) f) (power_sum n w x (k + 2 ^ p * (2 * f)))
  even k f lk lf =
      let q : ℕ = reversed p k in
      by_sums h v minus (block (2 * h) q y) (block h (2 * q) z)
      (λ r lr. c_via (ap z (sym (first_half q h r))) (parted.pair q r (reversed_lt p k lk) lr).plus refl) f
      ⨟ before.entry k (2 * f) lk (omega arith)

  odd : (k f : ℕ) → k < 2 ^ p → f < h
      → Cong m (power_sum h (v ^ 2) (block h (2 * reversed p k + 1) z) f) (power_sum n w x (k + 2 ^ p * (2 * f + 1)))
  odd k f lk lf =
      let q : ℕ = reversed p k in
      by_differences h v minus (block (2 * h) q y) (block h (2 * q + 1) z)
      (λ r lr. c_via (ap (λ (i : ℕ). z i + block (2 * h) q y (h + r) * v ^ r) (sym (second_half q h r))) (parted.pair q r (reversed_lt p k lk) lr).minus refl) f
      ⨟ before.entry k (2 * f + 1) lk (omega arith)

  pub forward_more : ForwardAfter m n w (suc p) h x z
  forward_more = record { entry = λ k f lk lf. go k f lk lf (dec_lt k (2 ^ p)) }
    where
      square : v ^ 2 ≡ w ^ (2 ^ suc p)
      square = sym (pow_mul w (2 ^ p) 2) ∙ ap (λ (i : ℕ). w ^ i) (omega (arith, two-pow-succ p))

      -- a block and a frequency by other names
      named : (k f q g : ℕ) → reversed (suc p) k ≡ q → g ≡ k + 2 ^ suc p * f
          → Cong m (power_sum h (v ^ 2) (block h q z) f) (power_sum n w x g)
          → Cong m (power_sum h (w ^ (2 ^ suc p)) (block h (reversed (suc p) k) z) f) (power_sum n w x (k + 2 ^ suc p * f))
      named k f q g eq eg c =
          c_via (ap₂ (λ (i u : ℕ). power_sum h u (block h i z) f) eq (sym square)) c (ap (power_sum n w x) eg)

      go : (k f : ℕ) → k < 2 ^ suc p → f < h → Dec (k < 2 ^ p)
          → Cong m (power_sum h (w ^ (2 ^ suc p)) (block h (reversed (suc p) k) z) f) (power_sum n w x (k + 2 ^ suc p * f))
      go k f lk lf (yes l) =
          let here : k ≡ k + 0 * 2 ^ p = omega arith in
          named k f (2 * reversed p k) (k + 2 ^ p * (2 * f)) (ap (reversed (suc p)) here ∙ reversed_top p k 0 l (omega arith) ∙ omega arith)
          (rw (two-pow-succ p) (omega arith)) (even k f l lf)
      go k f lk lf (no l) =
          let k' : ℕ = k - 2 ^ p in
          let l' : k' < 2 ^ p = omega (arith, two-pow-succ p) in
          let here : k ≡ k' + 1 * 2 ^ p = omega arith in
          let power : 2 ^ p * (2 * f + 1) ≡ 2 ^ suc p * f + 2 ^ p = rw (two-pow-succ p) (omega arith) in
          named k f (2 * reversed p k' + 1) (k' + 2 ^ p * (2 * f + 1)) (ap (reversed (suc p)) here ∙ reversed_top p k' 1 l' (omega arith))
          (omega arith) (odd k' f l' lf)

-- ---- inverse

-- p passes have made y of x, and left s blocks
pub record InverseAfter (m v p s : ℕ) (x y : ℕ → ℕ) : Type 0 where
  pub entry : (q k : ℕ) → q < s → k < 2 ^ p → Cong m (y (q * 2 ^ p + k)) (power_sum (2 ^ p) (v ^ s) (λ i. x (q * 2 ^ p + reversed p i)) k)

pub inverse_none : (m n v : ℕ) (x : ℕ → ℕ) → InverseAfter m v 0 n x x
unfolding reversed
inverse_none m n v x = record {
  entry = λ q k lq lk. let none : k ≡ 0 = omega arith in
      c_eq (ap (λ (i : ℕ). x (q * 2 ^ 0 + i)) none ∙ sym (power_sum_one (v ^ n) (λ i. x (q * 2 ^ 0 + reversed 0 i)) k));
}

pub inverse_all : {m v p : ℕ} {x y : ℕ → ℕ} → InverseAfter m v p 1 x y
    → (k : ℕ) → k < 2 ^ p → Cong m (y k) (power_sum (2 ^ p) v (λ i. x (reversed p i)) k)
inverse_all {m} {v} {p} {x} {y} all k lk =
    c_via (ap y (omega (arith, zero-mul (2 ^ p)))) (all.entry 0 k (omega arith) lk)
    (ap (λ (u : ℕ). power_sum (2 ^ p) u (λ i. x (0 * 2 ^ p + reversed p i)) k) (pow_one v))
    ⨟ c_power_sum (2 ^ p) v _ _ k (λ i _. c_eq (ap x (omega (arith, zero-mul (2 ^ p)))))

-- the two words of an inverse butterfly, where t is −s
joined_low : {m y e o a b : ℕ} (t s : ℕ) → Cong m (t + s) 0 → Cong m (y + o * t) e → Cong m e a → Cong m o b → Cong m y (a + s * b)
joined_low {m} {y} {e} {o} {a} {b} t s minus h ce co =
    c_via (omega arith) (c_add (c_refl {a = y}) (c_mul (c_refl {a = o}) (c_sym minus))) refl
    ⨟ c_via (omega arith) (c_add h (c_refl {a = o * s})) refl
    ⨟ c_via refl (c_add ce (c_mul co (c_refl {a = s}))) (omega arith)

joined_high : {m z e o a b d : ℕ} (t s : ℕ) → Cong m (t + s) 0 → Cong m z (e + o * t) → Cong m e a → Cong m o b → Cong m (d + s * b) a → Cong m z d
joined_high {m} {z} {e} {o} {a} {b} {d} t s minus h ce co known =
    h ⨟ c_add (ce ⨟ c_sym known) (c_mul co (c_refl {a = t}))
    ⨟ c_via (omega arith) (c_add (c_refl {a = d}) (c_mul (c_refl {a = b}) minus)) (omega arith)

-- one pass more, where 2 ^ p is half the period of the root of the pass and t r is minus its power r
module _ {m v p e : ℕ} (g : ℕ) (t : ℕ → ℕ) (minus : (r : ℕ) → r < 2 ^ p → Cong m (t r + (v ^ g) ^ r) 0) (turn : Cong m ((v ^ g) ^ (2 ^ p) + 1) 0)
    {x y z : ℕ → ℕ} (before : InverseAfter m v p (2 * g) x y) (joined : EachBlock g (2 ^ p) (λ r. Joined m e (t r)) y z) where
  abbrev u : ℕ
  u = v ^ g

  -- the words of block q in the order of their indices
  abbrev ordered : ℕ → ℕ → ℕ
  ordered q i = x (q * (2 * 2 ^ p) + reversed (suc p) i)

  square : v ^ (2 * g) ≡ u ^ 2
  square = ap (λ (i : ℕ). v ^ i) (mul_comm 2 g) ∙ pow_mul v g 2

  first : (q r : ℕ) → q < g → r < 2 ^ p → Cong m (y (q * (2 * 2 ^ p) + r)) (evens (2 ^ p) u (ordered q) r)
  unfolding evens
  first q r lq lr =
      c_via (ap y (first_half q (2 ^ p) r)) (before.entry (2 * q) r (omega arith) lr)
      (ap (λ (i : ℕ). power_sum (2 ^ p) i (λ i. x (2 * q * 2 ^ p + reversed p i)) r) square)
      ⨟ c_power_sum (2 ^ p) (u ^ 2) _ (λ i. ordered q (2 * i)) r
      (λ i _. c_eq (ap x (sym (first_half q (2 ^ p) (reversed p i)) ∙ omega (arith, reversed_even p i))))

  second : (q r : ℕ) → q < g → r < 2 ^ p → Cong m (y (q * (2 * 2 ^ p) + (2 ^ p + r))) (odds (2 ^ p) u (ordered q) r)
  unfolding odds
  second q r lq lr =
      c_via (ap y (second_half q (2 ^ p) r)) (before.entry (2 * q + 1) r (omega arith) lr)
      (ap (λ (i : ℕ). power_sum (2 ^ p) i (λ i. x ((2 * q + 1) * 2 ^ p + reversed p i)) r) square)
      ⨟ c_power_sum (2 ^ p) (u ^ 2) _ (λ i. ordered q (2 * i + 1)) r
      (λ i _. c_eq (ap x (sym (second_half q (2 ^ p) (reversed p i)) ∙ omega (arith, reversed_odd p i))))

  low : (q r : ℕ) → q < g → r < 2 ^ p → Cong m (z (q * (2 * 2 ^ p) + r)) (power_sum (2 * 2 ^ p) u (ordered q) r)
  low q r lq lr =
      c_via refl (joined_low (t r) (u ^ r) (minus r lr) (joined.pair q r lq lr).minus (first q r lq lr) (second q r lq lr)) (sym (halve_low (2 ^ p) u (ordered q) r))

  high : (q r : ℕ) → q < g → r < 2 ^ p → Cong m (z (q * (2 * 2 ^ p) + (2 ^ p + r))) (power_sum (2 * 2 ^ p) u (ordered q) (r + 2 ^ p))
  high q r lq lr =
      joined_high (t r) (u ^ r) (minus r lr) (joined.pair q r lq lr).plus (first q r lq lr) (second q r lq lr) (halve_high (2 ^ p) u turn (ordered q) r)

  pub inverse_more : InverseAfter m v (suc p) g x z
  inverse_more = record { entry = λ q k lq lk. rw (sym twice) (go q k lq (omega arith) (dec_lt k (2 ^ p))) }
    where
      twice : 2 * 2 ^ p ≡ 2 ^ suc p
      twice = omega (arith, two-pow-succ p)

      go : (q k : ℕ) → q < g → k < 2 * 2 ^ p → Dec (k < 2 ^ p)
          → Cong m (z (q * (2 * 2 ^ p) + k)) (power_sum (2 * 2 ^ p) u (λ i. x (q * (2 * 2 ^ p) + reversed (suc p) i)) k)
      go q k lq lk (yes l) = low q k lq l
      go q k lq lk (no l) =
          let r : ℕ = k - 2 ^ p in
          c_via (ap (λ (i : ℕ). z (q * (2 * 2 ^ p) + i)) (omega arith)) (high q r lq (omega arith)) (ap (power_sum (2 * 2 ^ p) u (ordered q)) (omega arith))
