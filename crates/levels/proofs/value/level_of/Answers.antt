-- `level_of` by size and sign: what is clamped is the level of the size.
use Rattle.std.proofs.Common.{◌≡◌, sym, ◌+◌, ◌/◌, ◌^◌, ◌≤◌, ◌<◌, ℤ, pos, negsuc, nat_abs, ◌*ℤ◌, arith, to_z-of_z, w16, SFits, to_z, of_z}
use borrow.Author.Rules.{sfits_of}
use mir.Facts.{to_z_pos}
use Rattle.levels.specs.Level.{nearest, level}
use Rattle.levels.proofs.NearestLaws.{nearest_is}
use Rattle.levels.proofs.LevelLaws.{held, level-signed, level-within}
use Rattle.levels.proofs.value.level_of.Goals as goal
use Rattle.levels.proofs.value.level_of.Goals.{After-min-clamped}

-- a number of that size fits 16 bits
fits-small : (z : ℤ) → nat_abs z ≤ 32767 → SFits w16 z
fits-small (pos n) l = record { sfits = omega arith }
fits-small (negsuc n) l = record { sfits = omega arith }

-- the quotient is the nearest one, so that what is clamped is the level of the size
clamped : (c : After-min-clamped) → let a = c.args in c.min-clamped.result ≡ held a.bits a.most (nat_abs a.value)
clamped c =
    let a = c.args in
    let quotient : (c.unsigned_abs.result + a.rounding) / 2 ^ a.bits ≡ nearest a.bits (nat_abs a.value)
    = rw (c.unsigned_abs.ensures.value, to_z-of_z c.ranges.value, c.requires.1) (sym (nearest_is a.bits (nat_abs a.value))) in
    rw (c.min-clamped.ensures, quotient)

pub returns : goal.returns
returns c =
    let a = c.args in
    let small : c.min-clamped.result < 32768 = omega (arith, c.requires.2) in
    let product : to_z w16 c.min-clamped.result *ℤ to_z w16 (of_z w16 c.sign.result) ≡ level a.bits a.most a.value
    = rw (to_z_pos w16 small, to_z-of_z (sfits_of c.sign.type_inv), c.sign.ensures, to_z-of_z c.ranges.value, clamped (goal.at.returns c).After-min-clamped)
    (sym (level-signed a.bits a.most a.value)) in
    rw product (to_z-of_z (fits-small _ (omega (arith, level-within a.bits a.most a.value, c.requires.2))))
