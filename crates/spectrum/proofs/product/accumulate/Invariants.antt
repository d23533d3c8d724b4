-- Sum after sum is made; the words further on are as they were lent.
use Rattle.std.proofs.Common.{List, ℕ, ◌+◌, ◌*◌, ◌≤◌, get_or}
use Rattle.algebra.specs.Congruence.{Cong}
use Rattle.algebra.specs.EachWord.{WordsDone}
use Rattle.fermat.specs.Field.{modulus}
use Rattle.spectrum.specs.Product.{product_most}
use Rattle.spectrum.proofs.product.accumulate.Given as goal

-- at place p the word a becomes b
pub record Summed (t count : ℕ) (xs : List ℕ) (p a b : ℕ) : Type 0 where
  pub value : Cong (modulus t) b (a + get_or xs (count + p) 0 * get_or xs (count + (count + p)) 0)
  pub bound : b ≤ a + product_most t

abbrev pub invariant-loop-i : goal.invariant-loop-i
invariant-loop-i g l = WordsDone (Summed g.F.Field.number l.count l.initial.scratch) l.i l.initial.scratch l.scratch
