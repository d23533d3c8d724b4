-- `scale_of` is 1/N: the modulus less a power of 2, which lies below it.
use mathlib.Core.Path.{◌≡◌, ap₂}
use Prim.Native.Nat.{◌+◌, ◌-◌, ◌*◌, ◌%◌, ◌^◌}
use native.Mathlib.Omega.{arith}
use Rattle.fermat.specs.FieldSizeLaws.{shifted, halvings_le, rest_le, bits_high}
use Rattle.fermat.proofs.field.scale_of.Goals as goal
use Rattle.fermat.proofs.field.scale_of.Goals.{After-modulus_of}

power : (c : After-modulus_of) →
    let t = c.args.field in
    (1 * 2 ^ (c.bits_of.result - c.halvings_of.result)) % 2 ^ 64 ≡ 2 ^ (2 ^ t - (t + 1))
power c =
    let s = c.before.before.before in
    let t = s.args.field in
    shifted (ap₂ ◌-◌ c.bits_of.ensures c.halvings_of.ensures) (omega (arith, bits_high t s.requires))

pub overflow_sub-rest : goal.overflow_sub-rest
overflow_sub-rest c = omega (arith, halvings_le c.args.field)

pub overflow_shl-result : goal.overflow_shl-result
overflow_shl-result c = let s = c.before.before.before in omega (arith, bits_high s.args.field s.requires)

pub overflow_sub-result : goal.overflow_sub-result
overflow_sub-result c = omega (arith, power c, rest_le c.args.field)

pub returns : goal.returns
returns c = ap₂ ◌-◌ c.modulus_of.ensures (power c)
