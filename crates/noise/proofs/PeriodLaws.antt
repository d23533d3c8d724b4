-- The period of the draws: modulo 2^k a seed comes back where 2^k divides the number of draws, and nowhere else. With the multiplier a and the
-- increment c, a seed s after n draws is s + (1 + a + .. + a^(n − 1)) · ((a − 1) s + c). The last factor is odd; the rest is the law of the
-- geometric sum.
use Rattle.std.specs.Prelude.{◌≡◌, ℕ, zero, suc, ◌+◌, ◌-◌, ◌*◌, ◌/◌, ◌%◌, ◌^◌, ◌<◌, ◌≢◌}
use Rattle.std.proofs.Common.{sym, ◌∙◌, arith}
use Rattle.std.specs.Int.{◌∣◌}
use Rattle.std.proofs.Math.Nat.{dvd-mul_right_of_dvd, dvd_refl, le_of_dvd}
use Rattle.algebra.specs.Congruence.{Cong}
use Rattle.algebra.specs.CongruenceLaws.{c_eq, c_refl, c_sym, ◌⨟◌, c_via, c_add, c_mul, c_mod, c_small, c_added, c_added_only}
use Rattle.noise.specs.Draw.{multiplier, increment, next_seed, seed_after, seed_count}
use Rattle.noise.specs.DrawLaws.{seed_none, seed_next, seed_below, seed_add}
use Rattle.noise.specs.GeometricLaws.{odd_factor, geometric, divides_total, divides_only}

-- how far one draw moves the seed, without remainders
abbrev step : ℕ → ℕ
step seed = (multiplier - 1) * seed + increment

-- the seed after n draws, without remainders
seed_moved : (modulus n seed : ℕ) → Cong modulus (seed_after modulus n seed) (seed + geometric multiplier n * step seed)
unfolding geometric next_seed
seed_moved modulus zero seed = c_eq (seed_none modulus seed ∙ omega arith)
seed_moved modulus (suc n) seed =
    c_via (seed_next modulus n seed) (c_mod ⨟ c_add (c_mul (c_refl {a = multiplier}) (seed_moved modulus n seed)) c_refl) (omega arith)

-- the multiplier is 4 times this, plus 1
abbrev quarter : ℕ
quarter = multiplier / 4

-- the step is odd
step_odd : (seed : ℕ) → step seed % 2 ≡ 1
step_odd seed = omega arith

module _ (k n seed : ℕ) where
  abbrev modulus : ℕ
  modulus = 2 ^ k

  -- a seed that has come back: 2^k divides the sum times the step, so the sum, so n
  pub returns_only : Cong modulus (seed_after modulus n seed) seed → modulus ∣ n
  returns_only e =
      divides_only quarter k n
      (odd_factor k (geometric multiplier n) (step seed) (step_odd seed) (c_added_only (c_sym (seed_moved modulus n seed) ⨟ e)))

  pub returns_at : modulus ∣ n → Cong modulus (seed_after modulus n seed) seed
  returns_at h = seed_moved modulus n seed ⨟ c_added (dvd-mul_right_of_dvd _ (divides_total quarter k n h) (step seed))

-- modulo 2^k, no seed comes back before 2^k draws
pub no_return_before : (k n seed : ℕ) → 0 < n → n < 2 ^ k → seed_after (2 ^ k) n seed ≢ seed
no_return_before k n seed some few e = let l = le_of_dvd some (returns_only k n seed (c_eq e)) in omega arith

-- after 2^k draws each one does
pub return_after : (k seed : ℕ) → seed < 2 ^ k → seed_after (2 ^ k) (2 ^ k) seed ≡ seed
return_after k seed l =
    c_small (seed_below (2 ^ k) (2 ^ k) seed (omega arith) (omega arith)) l (returns_at k (2 ^ k) seed (dvd_refl (2 ^ k)))

-- ---- 32-bit seeds

-- no seed comes back before 4,294,967,296 draws
pub no_seed_returns : (draws seed : ℕ) → 0 < draws → draws < 4294967296 → seed_after seed_count draws seed ≢ seed
no_seed_returns = no_return_before 32

-- after 4,294,967,296 draws each one does
pub seed_returns : (seed : ℕ) → seed < 4294967296 → seed_after seed_count 4294967296 seed ≡ seed
seed_returns = return_after 32

-- so that fewer draws never give a seed twice
pub seeds_differ : (first second seed : ℕ) → first < second → second < first + 4294967296
    → seed_after seed_count first seed ≢ seed_after seed_count second seed
seeds_differ first second seed l few e =
    let apart : ℕ = second - first in
    let sum : first + apart ≡ second = omega arith in
    no_seed_returns apart (seed_after seed_count first seed) (omega arith) (omega arith)
    (sym (seed_add seed_count first apart seed) ∙ rw sum (sym e))
