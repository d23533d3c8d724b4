-- The table's rule is one test over all its entries, which antt computes.
use Rattle.std.proofs.Common.{refl}
use Rattle.row.specs.Powers.{row_root}
use Rattle.row.specs.PowersLaws.{powers_by}
use Rattle.row.proofs.table.PowerTable.new.Goals as goal

pub invariant_of-result : goal.invariant_of-result
unfolding row_root
invariant_of-result c = record { root_powers = powers_by 65537 row_root 256 _ refl tt }
