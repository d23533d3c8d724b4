-- The state after p forward passes, lane by lane, and one pass more: 2 ^ p blocks of s rows, of which those from `filled` on are 0.
use mathlib.Core.Path.{◌≡◌, refl, sym, ap, ◌∙◌}
use mathlib.Core.List.{List}
use Prim.Native.Nat.{ℕ, suc, ◌+◌, ◌*◌, ◌/◌, ◌%◌, ◌^◌, ◌<◌, ◌≤◌, min}
use native.Mathlib.Nat.{two-pow-succ, mul-le-mul_right, min-le_left, zero-mul}
use native.Mathlib.Decide.{ℕ_discrete, dec_lt}
use native.Mathlib.Omega.{arith}
use lib.ListN.{length, get_or}
use Rattle.algebra.specs.Congruence.{Cong}
use Rattle.algebra.specs.CongruenceLaws.{c_via, c_multiple}
use Rattle.passes.specs.Butterfly.{Forward, Parted}
use Rattle.passes.specs.Halving.{word, Filled}
use Rattle.passes.specs.Passes.{EachBlock, Passed}
use Rattle.passes.specs.PassLaws.{pass_root, first_half, second_half, ForwardAfter, forward_none, forward_more}
use Rattle.passes.proofs.Levels.{Level}
use Rattle.passes.proofs.PassRows.{Empty, empty_after, rows_made}

pub record ForwardLanes (b unit n filled lanes p s : ℕ) (xs ys : List ℕ) : Type 0 where
  pub lane : (j : ℕ) → j < lanes → ForwardAfter (2 ^ b + 1) n (2 ^ unit) p s (λ i. word lanes i j xs) (λ i. word lanes i j ys)
  -- the rows of a block from `filled` on are 0
  pub empty : (q i : ℕ) → q < 2 ^ p → filled * lanes ≤ i → i < s * lanes → get_or ys (q * (s * lanes) + i) 0 ≡ 0

pub forward_lanes_none : (b unit n filled lanes : ℕ) (xs : List ℕ) → length xs ≡ n * lanes → Filled filled lanes xs
    → ForwardLanes b unit n filled lanes 0 n xs xs
forward_lanes_none b unit n filled lanes xs size zeros = record {
  lane = λ j lj. forward_none (2 ^ b + 1) n (2 ^ unit) (λ i. word lanes i j xs);
  empty = λ q i lq lo hi. let e : q * (n * lanes) + i ≡ i = first q (n * lanes) i lq in rw e (zeros.empty i lo (omega arith));
}
  where
    first : (q s i : ℕ) → q < 1 → q * s + i ≡ i
    first q s i l = let z : q ≡ 0 = omega arith in rw z (omega (arith, zero-mul s))

module _ {s n lanes unit b c filled p h : ℕ} {xs ys zs : List ℕ} (level : Level s lanes unit b (2 ^ p) h)
    (before : ForwardLanes b unit n filled lanes p (2 * h) xs ys) (size : length ys ≡ s)
    (passed : Passed Forward b c (unit * 2 ^ p) (min filled h) lanes (h * lanes) ys zs) where
  abbrev half : ℕ
  half = h * lanes

  minus : Cong (2 ^ b + 1) (((2 ^ unit) ^ (2 ^ p)) ^ h + 1) 0
  minus =
      c_via (ap (λ (i : ℕ). i + 1) (sym (pass_root 2 unit (2 ^ p) h) ∙ ap (λ (i : ℕ). 2 ^ i) level.turns))
      (c_via (omega arith) (c_multiple 0 1) refl) refl

  wide : 2 * h * lanes ≡ 2 * half
  wide = omega arith

  -- a word of a row past the filled ones
  none : (q i : ℕ) → q < 2 ^ p → filled * lanes ≤ i → i < 2 * half → get_or ys (q * (2 * half) + i) 0 ≡ 0
  none q i lq lo hi = rw wide at (before.empty q i lq lo (omega (arith, wide)))

  empty : Empty (2 ^ p) (min filled h * lanes) half ys
  empty q i lq lo hi =
      let from : filled * lanes ≤ i = past filled h i lo hi (dec_lt filled h) in
      (none q i lq from (omega arith), none q (half + i) lq (omega arith) (omega arith))
    where
      past : (filled h i : ℕ) → min filled h * lanes ≤ i → i < h * lanes → Dec (filled < h) → filled * lanes ≤ i
      past filled h i lo hi (yes l) = let e : min filled h ≡ filled = omega arith in rw e at lo
      past filled h i lo hi (no l) = let e : min filled h ≡ h = omega arith in let all : h * lanes ≤ i = rw e at lo in absurd (omega arith)

  pub forward_lanes_more : ForwardLanes b unit n filled lanes (suc p) h xs zs
  forward_lanes_more = record {
    lane = λ j lj. forward_more h minus (before.lane j lj) (rooted (rows_made (omega arith) passed (2 ^ p) (size ∙ level.whole) empty j lj));
    empty = after;
  }
    where
      rooted : {y z : ℕ → ℕ} → EachBlock (2 ^ p) h (λ r. Parted (2 ^ b + 1) (2 * c) (2 ^ (unit * 2 ^ p * r))) y z
          → EachBlock (2 ^ p) h (λ r. Parted (2 ^ b + 1) (2 * c) (((2 ^ unit) ^ (2 ^ p)) ^ r)) y z
      rooted all = record { pair = λ q r lq lr. rw (pass_root 2 unit (2 ^ p) r) at (all.pair q r lq lr) }

      -- a block of half the length is one half of a block
      after : (q i : ℕ) → q < 2 ^ suc p → filled * lanes ≤ i → i < half → get_or zs (q * half + i) 0 ≡ 0
      after q i lq lo hi =
          let lq' : q / 2 < 2 ^ p = omega (arith, two-pow-succ p) in
          let le : min filled h * lanes ≤ filled * lanes = mul-le-mul_right lanes (min-le_left filled h) in
          go (empty_after passed (2 ^ p) (size ∙ level.whole) empty (q / 2) i lq' (omega arith) hi) (ℕ_discrete (q % 2) 0)
        where
          go : (get_or zs (q / 2 * (2 * half) + i) 0 ≡ 0) × (get_or zs (q / 2 * (2 * half) + (half + i)) 0 ≡ 0) → Dec (q % 2 ≡ 0) → get_or zs (q * half + i) 0 ≡ 0
          go zeros (yes z) =
              let e : q ≡ 2 * (q / 2) = omega arith in
              ap (λ (j : ℕ). get_or zs j 0) (ap (λ (j : ℕ). j * half + i) e ∙ sym (first_half (q / 2) half i)) ∙ zeros.0
          go zeros (no z) =
              let e : q ≡ 2 * (q / 2) + 1 = omega arith in
              ap (λ (j : ℕ). get_or zs j 0) (ap (λ (j : ℕ). j * half + i) e ∙ sym (second_half (q / 2) half i)) ∙ zeros.1
