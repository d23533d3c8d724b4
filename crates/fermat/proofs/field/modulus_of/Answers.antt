-- `modulus_of` is the field's modulus: up to F_5 the shift cuts nothing.
use mathlib.Core.Path.{◌≡◌, ap}
use Prim.Native.Nat.{ℕ, ◌+◌, ◌*◌, ◌%◌, ◌^◌}
use native.Mathlib.Omega.{arith}
use Rattle.fermat.specs.FieldSizeLaws.{shifted, bits_high, power_high}
use Rattle.fermat.proofs.field.modulus_of.Goals as goal
use Rattle.fermat.proofs.field.modulus_of.Goals.{After-bits_of}

power : (c : After-bits_of) → (1 * 2 ^ c.bits_of.result) % 2 ^ 64 ≡ 2 ^ (2 ^ c.args.field)
power c = shifted c.bits_of.ensures (bits_high c.args.field c.requires)

pub overflow_shl-result : goal.overflow_shl-result
overflow_shl-result c = omega (arith, bits_high c.args.field c.requires)

pub overflow_add-result : goal.overflow_add-result
overflow_add-result c = omega (arith, power c, power_high c.args.field c.requires)

pub returns : goal.returns
returns c = ap (λ (i : ℕ). i + 1) (power c)
