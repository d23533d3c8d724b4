-- The product of a factor and a remainder fits a word, and the remainder of the product does not depend on the word being reduced before.
use Prim.Native.Nat.{ℕ, ◌*◌, ◌%◌, ◌<◌, ◌≤◌}
use native.Mathlib.Nat.{mod-lt, mul-le-mul_left}
use native.Mathlib.Omega.{arith}
use lib.ListN.{get_or}
use Rattle.algebra.specs.CongruenceLaws.{c_refl, c_mul, c_mod}
use Rattle.algebra.specs.EachWord.{words_none, words_next}
use Rattle.transform.proofs.residues.scale.Goals as goal

-- 4,294,967,295 times 4,294,967,296 fits a word
fits : (s m x : ℕ) → (0 < m) × (m ≤ 4294967297) × (s < 4294967296) → s * (x % m) < 18446744073709551616
fits s m x h =
    let r : x % m ≤ 4294967296 = omega (arith, mod-lt x h.0) in
    let le : s * (x % m) ≤ s * 4294967296 = mul-le-mul_left s r in
    omega arith

pub loop-word-init : goal.loop-word-init
loop-word-init c = words_none

pub overflow_mul-word : goal.overflow_mul-word
overflow_mul-word c =
    let loop = c.loop-word in
    record { fits = fits c.args.s c.args.m (get_or loop.words loop.word-index 0) c.requires }

pub loop-word-preserved : goal.loop-word-preserved
loop-word-preserved c =
    let loop = c.loop-word in
    words_next _ (omega arith) loop.invariant (c_mul (c_refl {a = c.args.s}) c_mod).same

pub returns : goal.returns
returns c i l = c.loop-word.invariant.done i (omega arith)
