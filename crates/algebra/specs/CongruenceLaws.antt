-- Laws of congruence: it is an equivalence that sums, products and powers respect. `c_via` joins an exact step, a congruence and an exact step.
use Rattle.std.specs.Prelude.{◌≡◌, refl, ◌≢◌, ℕ, zero, suc, ◌+◌, ◌*◌, ◌/◌, ◌%◌, ◌^◌, ◌<◌}
use Rattle.std.proofs.Common.{sym, ap, ◌∙◌, mod-eq_of_lt, pow-suc, mul_comm, arith}
use Rattle.std.specs.Int.{◌∣◌}
use Rattle.std.proofs.Math.Nat.{add-mod, mod-mod, zero-mod, add-mul-mod_self_right, mod-add-div', pow-zero, dvd-mul_left, dvd-add_iff_left, div-mul_cancel}
use Rattle.algebra.specs.Sum.{sum}
use Rattle.algebra.specs.SumLaws.{naturals, sum_none, sum_last, sum_single}
use Rattle.algebra.specs.Congruence.{Cong}

mod_left : (a b m : ℕ) → (a % m * b) % m ≡ (a * b) % m
mod_left a b m =
    let e : a * b ≡ a % m * b + (a / m * b) * m = ap (λ (x : ℕ). x * b) (sym (mod-add-div' a m)) ∙ omega arith in
    sym (ap (λ (x : ℕ). x % m) e ∙ add-mul-mod_self_right (a % m * b) (a / m * b) m)

mod_right : (a b m : ℕ) → (a * (b % m)) % m ≡ (a * b) % m
mod_right a b m = ap (λ (x : ℕ). x % m) (mul_comm a (b % m)) ∙ mod_left b a m ∙ ap (λ (x : ℕ). x % m) (mul_comm b a)

pub c_eq : {m a b : ℕ} → a ≡ b → Cong m a b
c_eq {m} p = record { same = ap (λ (x : ℕ). x % m) p }

pub c_refl : {m a : ℕ} → Cong m a a
c_refl = record { same = refl }

pub c_sym : {m a b : ℕ} → Cong m a b → Cong m b a
c_sym p = record { same = sym p.same }

infixr 30 ◌⨟◌
pub ◌⨟◌ : {m a b c : ℕ} → Cong m a b → Cong m b c → Cong m a c
◌⨟◌ p q = record { same = p.same ∙ q.same }

-- an exact step, a congruence, an exact step
pub c_via : {m a a' b b' : ℕ} → a ≡ a' → Cong m a' b' → b' ≡ b → Cong m a b
c_via p e q = c_eq p ⨟ e ⨟ c_eq q

pub c_add : {m a b c d : ℕ} → Cong m a b → Cong m c d → Cong m (a + c) (b + d)
c_add {m} {a} {b} {c} {d} p q = record { same = cc (p.same, q.same, add-mod a c m, add-mod b d m) }

pub c_mul : {m a b c d : ℕ} → Cong m a b → Cong m c d → Cong m (a * c) (b * d)
c_mul {m} {a} {b} {c} {d} p q =
    record { same = cc (p.same, q.same, mod_left a c m, mod_left b c m, mod_right b c m, mod_right b d m) }

pub c_pow : {m a b : ℕ} (k : ℕ) → Cong m a b → Cong m (a ^ k) (b ^ k)
c_pow {m} {a} {b} zero p = c_eq (rw (pow-zero a, pow-zero b))
c_pow {m} {a} {b} (suc k) p = rw (pow-suc a k, pow-suc b k) (c_mul (c_pow k p) p)

-- a number and its remainder
pub c_mod : {m a : ℕ} → Cong m (a % m) a
c_mod {m} {a} = record { same = mod-mod a m }

pub c_multiple : {m : ℕ} (a q : ℕ) → Cong m (a + q * m) a
c_multiple {m} a q = record { same = add-mul-mod_self_right a q m }

-- adding b changes no remainder by m where m divides b, and nowhere else
module _ {m a b : ℕ} where
  pub c_added : m ∣ b → Cong m (a + b) a
  c_added h = c_via (ap (λ (x : ℕ). a + x) (sym (div-mul_cancel _ h))) (c_multiple a (b / m)) refl

  pub c_added_only : Cong m (a + b) a → m ∣ b
  c_added_only e =
      let quotients : b + a / m * m ≡ (a + b) / m * m = omega (arith, e.same, mod-add-div' a m, mod-add-div' (a + b) m) in
      (dvd-add_iff_left m (dvd-mul_left m (a / m))).1 (rw quotients (dvd-mul_left m ((a + b) / m)))

pub c_sum : {m n : ℕ} {f g : ℕ → ℕ} → ((i : ℕ) → i < n → Cong m (f i) (g i)) → Cong m (sum n f) (sum n g)
c_sum {n = zero} {f} {g} h = c_eq (sum_none f ∙ sym (sum_none g))
c_sum {n = suc n} {f} {g} h =
    c_via (sum_last n f) (c_add (c_sum {n = n} {f = f} {g = g} (λ i l. h i (omega arith))) (h n (omega arith))) (sym (sum_last n g))

-- a sum all of whose summands but the k-th are congruent to 0
pub c_single : {m : ℕ} (n k : ℕ) (f : ℕ → ℕ) → k < n → ((i : ℕ) → i < n → i ≢ k → Cong m (f i) 0) → Cong m (sum n f) (f k)
c_single {m} n k f l h =
    c_sum (λ i p. c_sym c_mod) ⨟ c_eq (sum_single naturals n k (λ i. f i % m) l (λ i p d. (h i p d).same ∙ zero-mod m)) ⨟ c_mod

-- numbers below m that are congruent are equal
pub c_small : {m a b : ℕ} → a < m → b < m → Cong m a b → a ≡ b
c_small p q e = sym (mod-eq_of_lt p) ∙ e.same ∙ mod-eq_of_lt q
