-- Laws of powers of natural numbers that the kit's library lacks.
use Rattle.std.specs.Prelude.{◌≡◌, ℕ, zero, suc, ◌+◌, ◌*◌, ◌^◌}
use Rattle.std.proofs.Math.Nat.{pow-zero}
use Rattle.std.proofs.Common.{pow-suc, mul-zero, one-mul, arith, pow-add}

pub pow_mul : (a i j : ℕ) → a ^ (i * j) ≡ (a ^ i) ^ j
pow_mul a i zero = rw (mul-zero i, pow-zero a, pow-zero (a ^ i))
pow_mul a i (suc j) =
    let e : i * suc j ≡ i * j + i = omega arith in
    rw (e, pow-add, pow-suc, pow_mul a i j)

pub mul_pow : (a b k : ℕ) → (a * b) ^ k ≡ a ^ k * b ^ k
mul_pow a b zero = rw (pow-zero (a * b), pow-zero a, pow-zero b)
mul_pow a b (suc k) = rw (pow-suc (a * b) k, pow-suc a k, pow-suc b k, mul_pow a b k) (omega arith)

pub one_pow : (k : ℕ) → 1 ^ k ≡ 1
one_pow zero = pow-zero 1
one_pow (suc k) = rw (pow-suc, one_pow k)

pub pow_one : (a : ℕ) → a ^ 1 ≡ a
pow_one a = rw (pow-suc a 0, pow-zero a) (one-mul a)
