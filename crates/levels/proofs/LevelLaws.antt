-- Laws of levels, for every shift and bound: a level is odd and monotone in its output, within ±B, and outputs that are near have levels that
-- are near. They rest on the laws of `nearest`: a level is known by the level of its size and by its sign.
use Rattle.std.specs.Prelude.{◌≡◌, refl, Bool, true, false, cond, ℕ, zero, suc, ◌+◌, ◌*◌, ◌/◌, ◌^◌, ◌≤◌, min, T, ltb, ℤ, pos, negsuc, neg_ℤ, nat_abs, ◌-ℤ◌, ◌*ℤ◌, ◌≤ℤ◌}
use Rattle.std.proofs.Common.{ap, ◌∙◌, arith, ltb-true, ltb-false, le-ltb, leb→le, le→leb}
use Rattle.std.specs.Int.Signed.{lt_z, le_z}
use Rattle.algebra.specs.SizeLaws.{size_neg, size_add}
use Rattle.levels.specs.Level.{nearest, divided, clamp, level}
use Rattle.levels.specs.BySize.{BySize, by_sign, odd_by_size, near_by_size}
use Rattle.levels.proofs.NearestLaws.{nearest_zero, nearest_unshifted, nearest_monotone, nearest_near, nearest-across}

-- ---- by size and sign

-- the level of a size
abbrev pub held : (shift bound n : ℕ) → ℕ
held shift bound n = min (nearest shift n) bound

not_under : (bound n : ℕ) → lt_z (pos n) (neg_ℤ (pos bound)) ≡ false
not_under zero n = le-ltb n 0 (omega arith)
not_under (suc bound) n = refl

clamp_pos : (bound n : ℕ) → clamp bound (pos n) ≡ pos (min n bound)
unfolding clamp
clamp_pos bound n = rw (not_under bound n) (go (ltb bound n) refl)
  where
    go : (t : Bool) → ltb bound n ≡ t → cond t (pos bound) (pos n) ≡ pos (min n bound)
    go true e = ap pos (omega (arith, ltb-true bound n e))
    go false e = ap pos (omega (arith, ltb-false bound n e))

clamp_neg : (bound n : ℕ) → clamp bound (neg_ℤ (pos n)) ≡ neg_ℤ (pos (min n bound))
unfolding clamp
clamp_neg bound zero = let none : min 0 bound ≡ 0 = omega arith in clamp_pos bound 0 ∙ rw none refl
clamp_neg zero (suc n) = let none : min (suc n) 0 ≡ 0 = omega arith in rw none refl
clamp_neg (suc bound) (suc n) = go (ltb bound n) refl
  where
    go : (t : Bool) → ltb bound n ≡ t → cond t (negsuc bound) (negsuc n) ≡ neg_ℤ (pos (min (suc n) (suc bound)))
    go true e = let b : min (suc n) (suc bound) ≡ suc bound = omega (arith, ltb-true bound n e) in rw b refl
    go false e = let b : min (suc n) (suc bound) ≡ suc n = omega (arith, ltb-false bound n e) in rw b refl

divided_neg : (shift n : ℕ) → divided shift (neg_ℤ (pos n)) ≡ neg_ℤ (pos (nearest shift n))
unfolding divided
divided_neg shift zero = rw (nearest_zero shift) refl
divided_neg shift (suc n) = refl

pub level_by_size : (shift bound : ℕ) → BySize (held shift bound) (level shift bound)
unfolding level divided
level_by_size shift bound = record {
  at_pos = λ n. clamp_pos bound (nearest shift n);
  at_neg = λ n. rw (divided_neg shift n) (clamp_neg bound (nearest shift n));
}

pub level_zero : (shift bound : ℕ) → level shift bound (pos 0) ≡ pos 0
level_zero shift bound =
    let none : min 0 bound ≡ 0 = omega arith in
    (level_by_size shift bound).at_pos 0 ∙ rw (nearest_zero shift, none)

-- the level of the size, times the sign
pub level-signed : (shift bound : ℕ) (z : ℤ)
    → level shift bound z ≡ pos (held shift bound (nat_abs z)) *ℤ cond (lt_z z (pos 0)) (negsuc 0) (pos 1)
level-signed shift bound (pos n) = rw (le-ltb n 0 (omega arith), (level_by_size shift bound).at_pos n) (ap pos (omega arith))
level-signed shift bound (negsuc n) =
    let k : ℕ = held shift bound (suc n) in
    let once : k * 1 ≡ k = omega arith in
    rw once ((level_by_size shift bound).at_neg (suc n))

-- ---- odd, within ±B, monotone

pub level_odd : (shift bound : ℕ) (z : ℤ) → level shift bound (neg_ℤ z) ≡ neg_ℤ (level shift bound z)
level_odd shift bound = odd_by_size (level_by_size shift bound)

pub level-within : (shift bound : ℕ) (z : ℤ) → nat_abs (level shift bound z) ≤ bound
level-within shift bound = by_sign
    (λ z. nat_abs (level shift bound z) ≤ bound)
    (λ n. rw ((level_by_size shift bound).at_pos n) (omega arith))
    (λ n. rw ((level_by_size shift bound).at_neg n, size_neg (pos (held shift bound n))) (omega arith))

held_monotone : (shift bound : ℕ) {a b : ℕ} → a ≤ b → held shift bound a ≤ held shift bound b
held_monotone shift bound l = omega (arith, nearest_monotone shift l)

neg_le_pos : (a b : ℕ) → T (le_z (neg_ℤ (pos a)) (pos b))
neg_le_pos zero b = le→leb 0 b (omega arith)
neg_le_pos (suc a) b = tt

neg_le_neg : (a b : ℕ) → b ≤ a → T (le_z (neg_ℤ (pos a)) (neg_ℤ (pos b)))
neg_le_neg a zero l = neg_le_pos a 0
neg_le_neg zero (suc b) l = absurd (omega arith)
neg_le_neg (suc a) (suc b) l = le→leb b a (omega arith)

pub level_monotone : (shift bound : ℕ) (x y : ℤ) → x ≤ℤ y → level shift bound x ≤ℤ level shift bound y
level_monotone shift bound (pos a) (pos b) l =
    rw ((level_by_size shift bound).at_pos a, (level_by_size shift bound).at_pos b)
    (record { le = le→leb _ _ (held_monotone shift bound (leb→le a b l.le)) })
level_monotone shift bound (pos a) (negsuc b) l = absurd l.le
level_monotone shift bound (negsuc a) (pos b) l =
    rw ((level_by_size shift bound).at_neg (suc a), (level_by_size shift bound).at_pos b)
    (record { le = neg_le_pos (held shift bound (suc a)) (held shift bound b) })
level_monotone shift bound (negsuc a) (negsuc b) l =
    rw ((level_by_size shift bound).at_neg (suc a), (level_by_size shift bound).at_neg (suc b))
    (record { le = neg_le_neg _ _ (held_monotone shift bound (omega (arith, leb→le b a l.le))) })

-- ---- near

module _ (bound d : ℕ) (x y : ℤ) where
  -- outputs at most d apart: with shift 0 their levels are at most d apart
  pub level_near_unshifted : nat_abs (x -ℤ y) ≤ d → nat_abs (level 0 bound x -ℤ level 0 bound y) ≤ d
  level_near_unshifted =
      near_by_size (level_by_size 0 bound) d d
      (λ a b l. rw (nearest_unshifted a, nearest_unshifted b) (omega arith))
      (λ a b l. rw (nearest_unshifted a, nearest_unshifted b) (omega arith)) x y

  -- with any shift, at most the whole part of d / 2^shift plus one
  pub level_near : (shift : ℕ) → nat_abs (x -ℤ y) ≤ d → nat_abs (level shift bound x -ℤ level shift bound y) ≤ d / 2 ^ shift + 1
  level_near shift =
      near_by_size (level_by_size shift bound) d (d / 2 ^ shift + 1)
      (λ a b l. omega (arith, nearest_near shift d a b l))
      (λ a b l. omega (arith, nearest-across shift d a b l)) x y

-- any two levels are at most 2B apart
pub level_near_bound : (shift bound : ℕ) (x y : ℤ) → nat_abs (level shift bound x -ℤ level shift bound y) ≤ 2 * bound
level_near_bound shift bound x y =
    omega (
      arith,
      size_add (level shift bound x) (neg_ℤ (level shift bound y)),
      size_neg (level shift bound y),
      level-within shift bound x,
      level-within shift bound y,
    )
