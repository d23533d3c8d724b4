-- Laws of draws: a drawn seed is below the modulus, a map filled by two calls is the map of one call, and the value of a draw lies in −128 to
-- 127.
use Rattle.std.specs.Prelude.{◌≡◌, ℕ, zero, suc, ◌+◌, ◌/◌, ◌<◌, ◌≤◌, List, ◌++◌, length, ℤ, pos, neg_ℤ, ◌≤ℤ◌, refl}
use Rattle.std.proofs.Common.{ap, ◌∙◌, mod-lt, arith, length-append}
use Rattle.std.specs.Int.Signed.{mag}
use Rattle.algebra.specs.Places.{table}
use Rattle.algebra.specs.PlacesLaws.{table-append, table_same}
use Rattle.algebra.specs.SignLaws.{difference_small, mag_range}
use Rattle.noise.specs.Draw.{next_seed, seed_after, noise_value, seed_count, noise_left, last_seed}

pub seed_none : (modulus seed : ℕ) → seed_after modulus 0 seed ≡ seed
unfolding seed_after
seed_none modulus seed = refl

pub seed_next : (modulus draws seed : ℕ) → seed_after modulus (suc draws) seed ≡ next_seed modulus (seed_after modulus draws seed)
unfolding seed_after
seed_next modulus draws seed = refl

-- a drawn seed is a remainder
pub seed_below : (modulus draws seed : ℕ) → 0 < modulus → 0 < draws → seed_after modulus draws seed < modulus
unfolding next_seed
seed_below modulus zero seed l some = absurd (omega arith)
seed_below modulus (suc draws) seed l some = rw (seed_next modulus draws seed) (mod-lt _ l)

-- ---- two calls

pub seed_add : (modulus first second seed : ℕ) → seed_after modulus (first + second) seed ≡ seed_after modulus second (seed_after modulus first seed)
seed_add modulus first zero seed =
    let e : first + 0 ≡ first = omega arith in
    rw (e, seed_none modulus (seed_after modulus first seed))
seed_add modulus first (suc second) seed =
    let e : first + suc second ≡ suc (first + second) = omega arith in
    rw (e, seed_next modulus (first + second) seed, seed_next modulus second (seed_after modulus first seed), seed_add modulus first second seed)

module _ (seed : ℕ) (first second : List ℤ) where
  pub last_of_two : last_seed seed (first ++ second) ≡ last_seed (last_seed seed first) second
  last_of_two = rw (length-append first second) (seed_add seed_count (length first) (length second) seed)

  -- a map filled by two calls, the second given the first's last seed, equals a single call over both
  pub map_of_two : noise_left seed (first ++ second) ≡ noise_left seed first ++ noise_left (last_seed seed first) second
  map_of_two =
      let value : ℕ → ℤ = λ place. noise_value (seed_after seed_count (suc place) seed) in
      rw (length-append first second)
      (table-append (length first) (length second) value
      ∙ ap (λ (rest : List ℤ). table (length first) value ++ rest) (table_same (length second) (λ place l. later place)))
    where
      later : (place : ℕ)
          → noise_value (seed_after seed_count (suc (length first + place)) seed) ≡ noise_value (seed_after seed_count (suc place) (last_seed seed first))
      later place =
          let e : suc (length first + place) ≡ length first + suc place = omega arith in
          ap noise_value (rw e (seed_add seed_count (length first) (suc place) seed))

-- ---- the range of a value

pub value_small : (seed : ℕ) → seed < seed_count → mag (noise_value seed) ≤ 127
unfolding noise_value
value_small seed l = difference_small (seed / 16777216) 128 127 (omega arith) (omega arith)

-- the value of a draw lies in −128 to 127
pub value_within : (draws seed : ℕ) →
    let value = noise_value (seed_after seed_count (suc draws) seed) in (neg_ℤ (pos 128) ≤ℤ value) × (value ≤ℤ pos 127)
value_within draws seed = mag_range _ (value_small _ (seed_below seed_count (suc draws) seed (omega arith) (omega arith)))
