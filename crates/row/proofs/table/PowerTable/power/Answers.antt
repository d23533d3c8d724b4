-- The table has the entry at the remainder of the exponent; the root to the power 256 is 1.
use Rattle.std.proofs.Common.{◌%◌, mod-lt, arith}
use Rattle.algebra.specs.CongruenceLaws.{◌⨟◌}
use Rattle.fermat.specs.LengthLaws.{power_modulo}
use Rattle.row.specs.Powers.{row_root}
use Rattle.row.specs.PowersLaws.{power_at, power_below}
use Rattle.row.proofs.RootLaws.{root_one}
use Rattle.row.proofs.table.PowerTable.power.Goals as goal

pub returns-clause-value : goal.returns-clause-value
returns-clause-value c =
    let n = c.args.exponent in
    power_at c.args.self.now.root_powers (n % 256) (mod-lt n (omega arith)) ⨟ power_modulo 256 row_root n root_one

pub returns-clause-below : goal.returns-clause-below
returns-clause-below c = power_below c.args.self.now.root_powers (omega arith) (c.args.exponent % 256) (mod-lt c.args.exponent (omega arith))
