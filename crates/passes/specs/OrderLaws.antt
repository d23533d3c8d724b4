-- Laws of the order of words: bits in reverse order, places in rows, and lists whose words change places.
use Rattle.std.specs.Prelude.{◌≡◌, refl, List, ℕ, zero, suc, ◌+◌, ◌-◌, ◌*◌, ◌/◌, ◌%◌, ◌^◌, ◌≤◌, ◌<◌, length, get_or}
use Rattle.std.proofs.Common.{ap, ◌∙◌, mul-le-mul_left, mul-le-mul_right, mod-lt, mod-eq_of_lt, div-lt_iff_lt-mul, div-add-mod', arith}
use Rattle.std.proofs.Math.Nat.{two-pow-succ, mul-add-mod_self_right, div-eq_of_lt, mul-add-div_right}
use Rattle.std.proofs.Math.Decide.{ℕ_discrete}
use Rattle.passes.specs.Order.{reversed, across, Permuted, Involution}

-- ---- bits in reverse order

pub reversed_step : (l k : ℕ) → reversed (suc l) k ≡ reversed l (k / 2) + (k % 2) * 2 ^ l
unfolding reversed
reversed_step l k = refl

pub reversed_even : (l k : ℕ) → reversed (suc l) (2 * k) ≡ reversed l k
reversed_even l k =
    let half : 2 * k / 2 ≡ k = omega arith in
    let rest : 2 * k % 2 ≡ 0 = omega arith in
    rw (reversed_step l (2 * k), half, rest) (omega arith)

pub reversed_odd : (l k : ℕ) → reversed (suc l) (2 * k + 1) ≡ reversed l k + 2 ^ l
reversed_odd l k =
    let half : (2 * k + 1) / 2 ≡ k = omega arith in
    let rest : (2 * k + 1) % 2 ≡ 1 = omega arith in
    rw (reversed_step l (2 * k + 1), half, rest) (omega arith)

pub reversed_lt : (l k : ℕ) → k < 2 ^ l → reversed l k < 2 ^ l
unfolding reversed
reversed_lt zero k h = omega arith
reversed_lt (suc l) k h =
    let bit : k % 2 * 2 ^ l ≤ 1 * 2 ^ l = mul-le-mul_right (2 ^ l) (omega arith) in
    omega (arith, two-pow-succ l, reversed_lt l (k / 2) (omega (arith, two-pow-succ l)))

double : (l e : ℕ) → e * 2 ^ suc l ≡ 2 * (e * 2 ^ l)
double l e = rw (two-pow-succ l) (omega arith)

-- the highest bit becomes the lowest
pub reversed_top : (l k e : ℕ) → k < 2 ^ l → e < 2 → reversed (suc l) (k + e * 2 ^ l) ≡ 2 * reversed l k + e
unfolding reversed
reversed_top zero k e lk le = omega arith
reversed_top (suc l) k e lk le =
    let half : (k + e * 2 ^ suc l) / 2 ≡ k / 2 + e * 2 ^ l = omega (arith, double l e) in
    let rest : (k + e * 2 ^ suc l) % 2 ≡ k % 2 = omega (arith, double l e) in
    rw (half, rest) (omega (arith, double l (k % 2), reversed_top l (k / 2) e (omega (arith, two-pow-succ l)) le))

pub reversed-reversed : (l k : ℕ) → k < 2 ^ l → reversed l (reversed l k) ≡ k
unfolding reversed
reversed-reversed zero k h = omega arith
reversed-reversed (suc l) k h =
    let low : k / 2 < 2 ^ l = omega (arith, two-pow-succ l) in
    reversed_top l (reversed l (k / 2)) (k % 2) (reversed_lt l (k / 2) low) (omega arith) ∙ omega (arith, reversed-reversed l (k / 2) low)

pub reversed_involution : (l : ℕ) → Involution (2 ^ l) (reversed l)
reversed_involution l = record { within = reversed_lt l; twice = reversed-reversed l }

-- ---- places in rows

pub place_lt : {n : ℕ} (r c : ℕ) → r < n → c < n → r * n + c < n * n
place_lt {n} r c lr lc = let h : suc r * n ≤ n * n = mul-le-mul_right n lr in omega arith

-- a place above the diagonal comes before the one below
pub above_lt : {n : ℕ} (r c : ℕ) → r < c → c < n → r * n + c < c * n + r
above_lt {n} r c lr lc =
    let d : ℕ = c - r in
    let wide : d * 2 ≤ d * n = mul-le-mul_left d (omega arith) in
    let e : c ≡ r + d = omega arith in
    let rows : c * n ≡ r * n + d * n = ap (λ (x : ℕ). x * n) e ∙ omega arith in
    omega arith

module _ {n : ℕ} (r c : ℕ) (lc : c < n) where
  pub place_row : (r * n + c) / n ≡ r
  place_row = mul-add-div_right (omega arith) r c ∙ omega (arith, div-eq_of_lt lc)

  pub place_column : (r * n + c) % n ≡ c
  place_column = mul-add-mod_self_right r n c ∙ mod-eq_of_lt lc

  pub across_place : across n (r * n + c) ≡ c * n + r
  across_place = rw (place_row, place_column)

-- an index in n rows of n has its row and its column
module _ (n p : ℕ) (l : p < n * n) where
  some : 0 < n
  some = go (ℕ_discrete n 0)
    where
      go : Dec (n ≡ 0) → 0 < n
      go (yes z) = let e : n * n ≡ 0 = rw z in omega arith
      go (no z) = omega arith

  pub row_lt : p / n < n
  row_lt = (div-lt_iff_lt-mul some).1 l

  pub column_lt : p % n < n
  column_lt = mod-lt p some

  pub across_lt : across n p < n * n
  across_lt = place_lt (p % n) (p / n) column_lt row_lt

  pub across-across : across n (across n p) ≡ p
  across-across = across_place (p % n) (p / n) row_lt ∙ div-add-mod' p n

pub across_involution : (n : ℕ) → Involution (n * n) (across n)
across_involution n = record { within = across_lt n; twice = across-across n }

-- ---- lists whose words change places

pub transposed : {n : ℕ} (xs ys : List ℕ) → Permuted (across n) xs ys → length xs ≡ n * n → (r c : ℕ) → r < n → c < n
    → get_or ys (r * n + c) 0 ≡ get_or xs (c * n + r) 0
transposed {n} xs ys m e r c lr lc = m (r * n + c) (omega (arith, place_lt r c lr lc)) ∙ ap (λ (p : ℕ). get_or xs p 0) (across_place r c lc)

-- a bound on the words stays
pub permuted_most : (s : ℕ → ℕ) (xs ys : List ℕ) {n : ℕ} (e : ℕ) → length xs ≡ n → length ys ≡ n → ((p : ℕ) → p < n → s p < n) → Permuted s xs ys
    → ((p : ℕ) → p < length xs → get_or xs p 0 ≤ e) → (p : ℕ) → p < length ys → get_or ys p 0 ≤ e
permuted_most s xs ys e ex ey within m most p l =
    let inner : s p < length xs = omega (arith, within p (omega arith)) in
    omega (arith, m p (omega arith), most (s p) inner)
