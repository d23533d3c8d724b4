-- A pass, lane by lane: what it makes of every row, the rows of zeros that it leaves out included, and the bound on its words. It serves every step.
use mathlib.Core.Path.{◌≡◌, ◌∙◌, subst}
use mathlib.Core.List.{List}
use Prim.Native.Nat.{ℕ, ◌+◌, ◌-◌, ◌*◌, ◌/◌, ◌%◌, ◌^◌, ◌<◌, ◌≤◌}
use native.Mathlib.Nat.{mul-le-mul_right, zero-mul, mod-lt, div-add-mod', div-lt_iff_lt-mul}
use native.Mathlib.Decide.{ℕ_discrete, dec_lt}
use native.Mathlib.Omega.{arith}
use lib.Arith.{digits_div}
use lib.ListN.{length, get_or}
use Rattle.algebra.specs.PlacesLaws.{part_ends}
use Rattle.algebra.specs.CongruenceLaws.{c_eq}
use Rattle.passes.specs.Butterfly.{Step, Plain, Forward, Inverse, StepMakes, AtMost}
use Rattle.passes.specs.Halving.{word}
use Rattle.passes.specs.Passes.{EachBlock, StagePair, Passed}

-- ---- butterflies of every step

-- two words that are 0 stay 0
made_zeros : (step : Step) (b c t : ℕ) → StepMakes step b c t 0 0 0 0
made_zeros Plain b c t = record { plus = c_eq (omega arith); minus = c_eq (omega arith); low = omega arith; high = omega arith }
made_zeros Forward b c t = record { plus = c_eq (omega arith); minus = c_eq (omega (arith, zero-mul (2 ^ t))); low = omega arith; high = omega arith }
made_zeros Inverse b c t = record {
  minus = c_eq (omega (arith, zero-mul (2 ^ (b - t))));
  plus = c_eq (omega (arith, zero-mul (2 ^ (b - t))));
  low = omega arith;
  high = omega arith;
}

made_most : (step : Step) (b c t u v y z : ℕ) → StepMakes step b c t u v y z → (y ≤ 2 * c) × (z ≤ 2 * c)
made_most Plain b c t u v y z m = (omega (arith, m.low), omega (arith, m.high))
made_most Forward b c t u v y z m = (omega (arith, m.low), omega (arith, m.high))
made_most Inverse b c t u v y z m = (omega (arith, m.low), omega (arith, m.high))

-- ---- places

-- row r of block q, lane j, by the place of its word
lower_place : (q h r lanes j : ℕ) → (q * (2 * h) + r) * lanes + j ≡ q * (2 * (h * lanes)) + (r * lanes + j)
lower_place q h r lanes j = omega arith

upper_place : (q h r lanes j : ℕ) → (q * (2 * h) + (h + r)) * lanes + j ≡ q * (2 * (h * lanes)) + (h * lanes + (r * lanes + j))
upper_place q h r lanes j = omega arith

-- in each block of two halves, the pairs from `rows` on are 0
abbrev pub Empty : (blocks rows half : ℕ) → List ℕ → Type 0
Empty blocks rows half xs =
    (q i : ℕ) → q < blocks → rows ≤ i → i < half → (get_or xs (q * (2 * half) + i) 0 ≡ 0) × (get_or xs (q * (2 * half) + (half + i)) 0 ≡ 0)

module _ {step : Step} {b c unit rows lanes half : ℕ} {ys zs : List ℕ} (passed : Passed step b c unit rows lanes half ys zs)
    (blocks : ℕ) (whole : length ys ≡ blocks * (2 * half)) where
  -- the pairs that a pass leaves out
  pub empty_after : Empty blocks (rows * lanes) half ys → Empty blocks (rows * lanes) half zs
  empty_after empty q i lq lo hi =
      let same = ((passed.stages blocks whole).pair q i lq hi).kept (λ in_rows. omega arith) in
      let zeros = empty q i lq lo hi in
      (same.first ∙ zeros.0, same.second ∙ zeros.1)

  -- every word is at most twice what it was at most
  pub passed_most : length zs ≡ length ys → AtMost c ys → AtMost (2 * c) zs
  passed_most same most i l = go (ℕ_discrete half 0)
    where
      pair : (q r : ℕ) → q < blocks → r < half → (get_or zs (q * (2 * half) + r) 0 ≤ 2 * c) × (get_or zs (q * (2 * half) + (half + r)) 0 ≤ 2 * c)
      pair q r lq lr = pick ((passed.stages blocks whole).pair q r lq lr) (dec_lt r (rows * lanes))
        where
          ends : q * (2 * half) + 2 * half ≤ blocks * (2 * half)
          ends = part_ends q blocks (2 * half) lq

          pick : StagePair step b c unit rows lanes r (get_or ys (q * (2 * half) + r) 0) (get_or ys (q * (2 * half) + (half + r)) 0)
              (get_or zs (q * (2 * half) + r) 0) (get_or zs (q * (2 * half) + (half + r)) 0) → Dec (r < rows * lanes)
              → (get_or zs (q * (2 * half) + r) 0 ≤ 2 * c) × (get_or zs (q * (2 * half) + (half + r)) 0 ≤ 2 * c)
          pick two (yes h) = made_most step b c (unit * (r / lanes)) _ _ _ _ (two.here (omega arith, omega arith))
          pick two (no h) =
              let kept = two.kept (λ in_rows. omega arith) in
              let low = most (q * (2 * half) + r) (omega (arith, ends)) in
              let high = most (q * (2 * half) + (half + r)) (omega (arith, ends)) in
              (omega (arith, kept.first, low), omega (arith, kept.second, high))

      place : (q r : ℕ) → q * (2 * half) + r ≡ i → q < blocks → r < 2 * half → Dec (r < half) → get_or zs i 0 ≤ 2 * c
      place q r e lq lr (yes h) = subst (λ (k : ℕ). get_or zs k 0 ≤ 2 * c) e (pair q r lq h).0
      place q r e lq lr (no h) =
          let e' : q * (2 * half) + (half + (r - half)) ≡ i = omega arith in
          subst (λ (k : ℕ). get_or zs k 0 ≤ 2 * c) e' (pair q (r - half) lq (omega arith)).1

      go : Dec (half ≡ 0) → get_or zs i 0 ≤ 2 * c
      go (yes z) = let none : blocks * (2 * half) ≡ 0 = rw z (omega arith) in absurd (omega (arith, none))
      go (no z) =
          let some : 0 < 2 * half = omega arith in
          let rest : i % (2 * half) < 2 * half = mod-lt i some in
          place (i / (2 * half)) (i % (2 * half)) (div-add-mod' i (2 * half)) ((div-lt_iff_lt-mul some).1 (omega arith)) rest (dec_lt (i % (2 * half)) half)

-- every row is made as the step says, also one of zeros
pub rows_made : {step : Step} {b c unit rows lanes h : ℕ} {ys zs : List ℕ} → rows ≤ h → Passed step b c unit rows lanes (h * lanes) ys zs
    → (blocks : ℕ) → length ys ≡ blocks * (2 * (h * lanes)) → Empty blocks (rows * lanes) (h * lanes) ys → (j : ℕ) → j < lanes
    → EachBlock blocks h (λ r. StepMakes step b c (unit * r)) (λ i. word lanes i j ys) (λ i. word lanes i j zs)
rows_made {step} {b} {c} {unit} {rows} {lanes} {h} {ys} {zs} le passed blocks whole empty j lj =
    record { pair = λ q r lq lr. rw (lower_place q h r lanes j, upper_place q h r lanes j) (go q r lq lr (dec_lt r rows)) }
  where
    inside : rows * lanes ≤ h * lanes
    inside = mul-le-mul_right lanes le

    go : (q r : ℕ) → q < blocks → r < h → Dec (r < rows) → let at = q * (2 * (h * lanes)) in let i = r * lanes + j in
        StepMakes step b c (unit * r) (get_or ys (at + i) 0) (get_or ys (at + (h * lanes + i)) 0) (get_or zs (at + i) 0) (get_or zs (at + (h * lanes + i)) 0)
    go q r lq lr (yes l) =
        let last : r * lanes + j < rows * lanes = omega (arith, part_ends r rows lanes l) in
        rw (digits_div r {m = lanes} {r = j} lj) at (((passed.stages blocks whole).pair q (r * lanes + j) lq (omega (arith, inside))).here (omega arith, omega arith))
    go q r lq lr (no l) =
        let from : rows * lanes ≤ r * lanes = mul-le-mul_right lanes (omega arith) in
        let lo : rows * lanes ≤ r * lanes + j = omega arith in
        let hi : r * lanes + j < h * lanes = omega (arith, part_ends r h lanes lr) in
        let before = empty q (r * lanes + j) lq lo hi in
        let after = empty_after passed blocks whole empty q (r * lanes + j) lq lo hi in
        rw (before.0, before.1, after.0, after.1) (made_zeros step b c (unit * r))
