-- A part of a buffer that is lent: the s words from `at` on.
use Rattle.std.specs.Prelude.{◌≡◌, List, ℕ, ◌+◌, ◌<◌, ◌≤◌, length, get_or, drop}
use Rattle.std.proofs.Common.{◌∙◌, arith, length-drop, length-take-le, get_or-take, get_or-drop}
use borrow.Rule.Slice.PartMut.{mid_of}
use Rattle.passes.specs.Butterfly.{AtMost}

module _ (at s : ℕ) (xs : List ℕ) (le : at + s ≤ length xs) where
  pub part_length : length (mid_of at s xs) ≡ s
  part_length = length-take-le s (drop at xs) (omega (arith, length-drop at xs))

  pub part-word : (i : ℕ) → i < s → get_or (mid_of at s xs) i 0 ≡ get_or xs (at + i) 0
  part-word i l = get_or-take s (drop at xs) i 0 l ∙ get_or-drop at xs i 0

  pub part_most : (c : ℕ) → ((i : ℕ) → i < s → get_or xs (at + i) 0 ≤ c) → AtMost c (mid_of at s xs)
  part_most c most i l = let h : i < s = omega (arith, part_length) in rw (part-word i h) (most i h)
