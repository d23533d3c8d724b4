-- The shifts cut nothing, and the low bits and the margin together are not below the high bits.
use Prim.Native.Nat.{◌-◌}
use native.Mathlib.Omega.{arith}
use lib.Pow.{pow_pos}
use Rattle.fermat.specs.FieldSizeLaws.{one_shl}
use Rattle.passes.specs.WordLaws.{multiple_above, shl_low, low_lt, high_le, times_power_law}
use Rattle.passes.proofs.butterfly.times_power.Goals as goal

pub nonzero_rem-result : goal.nonzero_rem-result
nonzero_rem-result c =
    let g = c.args in
    rw (one_shl (g.bits - g.t) (omega arith)) (pow_pos (g.bits - g.t))

pub overflow_add-result : goal.overflow_add-result
overflow_add-result c =
    let g = c.args in
    let p = c.requires in
    rw (one_shl (g.bits - g.t) (omega arith), shl_low p.multiple g.t g.d p.t_lt_bits.0 p.t_lt_bits.1)
    (omega (arith, low_lt p.multiple g.t g.d p.t_lt_bits.0 p.t_lt_bits.1, multiple_above p.multiple))

pub overflow_sub-result : goal.overflow_sub-result
overflow_sub-result c = omega (arith, high_le c.requires.multiple c.args.t c.args.d c.requires.t_lt_bits.0 c.requires.t_lt_bits.1)

pub returns : goal.returns
returns c =
    let g = c.args in
    let p = c.requires in
    rw (one_shl (g.bits - g.t) (omega arith), shl_low p.multiple g.t g.d p.t_lt_bits.0 p.t_lt_bits.1)
    (times_power_law p.multiple g.t g.d p.t_lt_bits.0 p.t_lt_bits.1)
