-- The remainder of the product may be kept before the sum or after it.
use Rattle.algebra.specs.CongruenceLaws.{c_refl, c_add, c_mod}
use Rattle.noise.specs.Draw.{next_seed}
use Rattle.noise.proofs.draw.next_seed.Goals as goal

pub returns : goal.returns
unfolding next_seed
returns c = rw c.wrapping_mul_u32.ensures ((c_add c_mod c_refl).same)
