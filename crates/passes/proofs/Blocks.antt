-- The loop of a pass over its blocks: the state after some blocks, and one block more.
use mathlib.Core.Path.{◌≡◌, refl, sym, ap, ◌∙◌, subst}
use mathlib.Core.List.{List}
use Prim.Native.Nat.{ℕ, ◌+◌, ◌*◌, ◌<◌, ◌≤◌}
use native.Mathlib.Nat.{mul-le-mul_right}
use native.Mathlib.Decide.{dec_lt}
use native.Mathlib.Omega.{arith}
use lib.ListN.{length, get_or}
use borrow.Rule.Slice.PartMut.{mid_of, put_mid, same_len_mid}
use Rattle.algebra.specs.PlacesLaws.{part_ends, get_d_put_mid, get_d_put_mid_before, get_d_put_mid_after}
use Rattle.passes.specs.Butterfly.{Step, Staged}
use Rattle.passes.specs.Passes.{EachBlock, StagePair, Passed}
use Rattle.passes.specs.PartLaws.{part_length, part-word}

-- a block that begins before the end ends by it
pub block_inside : (count blocks s : ℕ) → count * s < blocks * s → count * s + s ≤ blocks * s
block_inside count blocks s l = go (dec_lt count blocks)
  where
    go : Dec (count < blocks) → count * s + s ≤ blocks * s
    go (yes h) = part_ends count blocks s h
    go (no h) = let le : blocks * s ≤ count * s = mul-le-mul_right s (omega arith) in absurd (omega arith)

module _ (step : Step) (b c unit rows lanes half : ℕ) where
  -- the blocks before the place `at` are done, and the others are as they were
  pub record Blocks (at : ℕ) (xs ys : List ℕ) : Type 0 where
    pub count : ℕ
    pub start : at ≡ count * (2 * half)
    pub same_length : length ys ≡ length xs
    pub done : EachBlock count half (StagePair step b c unit rows lanes) (λ i. get_or xs i 0) (λ i. get_or ys i 0)
    pub rest : (i : ℕ) → at ≤ i → get_or ys i 0 ≡ get_or xs i 0

  pub blocks_none : (xs : List ℕ) → Blocks 0 xs xs
  blocks_none xs = record { count = 0; start = omega arith; same_length = refl; done = record { pair = λ q i l h. absurd (omega arith) }; rest = λ i l. refl }

  pub blocks_all : {at : ℕ} {xs ys : List ℕ} → Blocks at xs ys → length xs ≤ at → Passed step b c unit rows lanes half xs ys
  blocks_all {at} {xs} {ys} all end = record { stages = λ blocks e. record { pair = λ q i lq li. all.done.pair q i (before blocks q i e lq li (dec_lt q all.count)) li } }
    where
      before : (blocks q i : ℕ) → length xs ≡ blocks * (2 * half) → q < blocks → i < half → Dec (q < all.count) → q < all.count
      before blocks q i e lq li (yes l) = l
      before blocks q i e lq li (no l) =
          let le : all.count * (2 * half) ≤ q * (2 * half) = mul-le-mul_right (2 * half) (omega arith) in
          absurd (omega (arith, part_ends q blocks (2 * half) lq, all.start))

  pub blocks_more : (at s : ℕ) (xs ys us : List ℕ) → s ≡ 2 * half → at + s ≤ length ys → length us ≡ s
      → Blocks at xs ys → Staged step b c unit rows lanes half (mid_of at s ys) us → Blocks (at + 2 * half) xs (put_mid at s ys us)
  blocks_more at s xs ys us es le len before stage = record {
    count = count + 1;
    start = omega arith;
    same_length = same_len_mid at s ys us (len ∙ sym (part_length at s ys le)) ∙ before.same_length;
    done = record { pair = λ q i lq li. go q i lq li (dec_lt q count) };
    rest = λ i l. get_d_put_mid_after 0 ys us at s le len i (omega arith) ∙ before.rest i (omega arith);
  }
    where
      count : ℕ
      count = before.count

      zs : List ℕ
      zs = put_mid at s ys us

      -- a word of this block, before and after
      old : (i : ℕ) → i < s → get_or (mid_of at s ys) i 0 ≡ get_or xs (count * (2 * half) + i) 0
      old i l = part-word at s ys le i l ∙ before.rest (at + i) (omega arith) ∙ ap (λ (p : ℕ). get_or xs (p + i) 0) before.start

      new : (i : ℕ) → i < s → get_or us i 0 ≡ get_or zs (count * (2 * half) + i) 0
      new i l = sym (get_d_put_mid 0 ys us at s le len i l) ∙ ap (λ (p : ℕ). get_or zs (p + i) 0) before.start

      -- a word of a block before this one
      earlier : (q i : ℕ) → q < count → i < 2 * half → get_or ys (q * (2 * half) + i) 0 ≡ get_or zs (q * (2 * half) + i) 0
      earlier q i lq li =
          sym (get_d_put_mid_before 0 ys us at s le len (q * (2 * half) + i) (omega (arith, part_ends q count (2 * half) lq, before.start)))

      Done : ℕ → ℕ → Type 0
      Done q i = StagePair step b c unit rows lanes i
          (get_or xs (q * (2 * half) + i) 0) (get_or xs (q * (2 * half) + (half + i)) 0) (get_or zs (q * (2 * half) + i) 0) (get_or zs (q * (2 * half) + (half + i)) 0)

      go : (q i : ℕ) → q < count + 1 → i < half → Dec (q < count) → Done q i
      go q i lq li (yes l) = rw (earlier q i l (omega arith), earlier q (half + i) l (omega arith)) at (before.done.pair q i l li)
      go q i lq li (no l) =
          let e : count ≡ q = omega arith in
          subst (λ (k : ℕ). Done k i) e (rw (old i (omega arith), old (half + i) (omega arith), new i (omega arith), new (half + i) (omega arith)) at (stage i li))
