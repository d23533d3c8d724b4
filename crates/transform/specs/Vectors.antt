-- Given words, by computation: the codes that they are answered with, and entries of their transforms.
use Rattle.std.specs.Prelude.{◌≡◌, refl, List, ℕ, get_or, set, replicate}
use Rattle.algebra.specs.Sum.{sum}
use Rattle.algebra.specs.Places.{table}
use Rattle.base.specs.Rules.{inside}
use Rattle.fermat.specs.Transform.{power_sum, transform_at}
use Rattle.transform.specs.Answer.{transform_code, row, answered, transformed}

-- n words, 0 but for the value at place 1
single : (n value : ℕ) → List ℕ
single n value = set (replicate n 0) 1 value

-- ---- the first rule that is broken

no_such_field : (transform_code 3 (single 16 1) ≡ 2) × (transform_code 6 (single 128 1) ≡ 2)
unfolding single transform_code inside
no_such_field = (refl, refl)

not_that_many_words : (transform_code 4 (single 64 1) ≡ 18) × (transform_code 5 (single 32 1) ≡ 18)
unfolding single transform_code inside
not_that_many_words = (refl, refl)

no_residue : (transform_code 4 (single 32 65537) ≡ 19) × (transform_code 5 (single 64 4294967297) ≡ 19)
unfolding single transform_code inside
no_residue = (refl, refl)

the_largest_residue : (transform_code 4 (single 32 65536) ≡ 0) × (transform_code 5 (single 64 4294967296) ≡ 0)
unfolding single transform_code inside
the_largest_residue = (refl, refl)

-- ---- the entry at place N / 2

one_in_the_small_field : get_or (transformed 4 (single 32 1)) 16 0 ≡ 65536
unfolding single answered transform_code inside row table transform_at power_sum sum
one_in_the_small_field = refl

one_in_the_large_field : get_or (transformed 5 (single 64 1)) 32 0 ≡ 4294967296
unfolding single answered transform_code inside row table transform_at power_sum sum
one_in_the_large_field = refl

-- 2 ^ 32 at place 1 comes out times 2 ^ 32
square_of_the_largest_residue : get_or (transformed 5 (single 64 4294967296)) 32 0 ≡ 1
unfolding single answered transform_code inside row table transform_at power_sum sum
square_of_the_largest_residue = refl
