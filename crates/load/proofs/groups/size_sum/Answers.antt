use Rattle.std.proofs.Common.{arith}
use Rattle.std.proofs.lemmas.Int.{to_z-of_z}
use Rattle.load.proofs.GroupSums.{size_next}
use Rattle.load.proofs.groups.size_sum.Goals as goal

pub loop-v-preserved : goal.loop-v-preserved
loop-v-preserved c = (grind (arith, to_z-of_z, size_next), omega arith)
