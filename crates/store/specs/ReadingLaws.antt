-- In both fields an integer whose size is at most the load limit is read back, and fits 32 bits. It rests on the laws of values as words.
use Rattle.std.specs.Prelude.{◌≡◌, ℕ, ◌+◌, ◌%◌, ◌<◌, ◌≤◌, ℤ, nat_abs}
use Rattle.std.proofs.Math.Decide.{ℕ_discrete}
use Rattle.std.proofs.Common.{arith}
use Rattle.algebra.specs.Residue.{Represents}
use Rattle.fermat.specs.Field.{modulus}
use Rattle.spectrum.specs.Value.{offset_of}
use Rattle.spectrum.specs.ValueLaws.{Moved, reading}
use Rattle.load.specs.Load.{load_limit}

-- the load limit leaves room below the offset and above it, and fits in 31 bits
abbrev Room : ℕ → Type 0
Room t = (load_limit t ≤ offset_of t) × (offset_of t + load_limit t < modulus t) × (load_limit t ≤ 2147483647)

room : (t : ℕ) → 4 ≤ t → t ≤ 5 → Room t
room t low high = go (ℕ_discrete t 4)
  where
    go : Dec (t ≡ 4) → Room t
    go (yes e) = rw e (omega arith, omega arith, omega arith)
    go (no d) =
        let e : t ≡ 5 = omega arith in
        rw e (omega arith, omega arith, omega arith)

pub field_reading : (t : ℕ) {v : ℕ} {z : ℤ} → 4 ≤ t → t ≤ 5 → nat_abs z ≤ load_limit t → Represents (modulus t) z v
    → Moved (offset_of t) 2147483647 z ((v + offset_of t) % modulus t)
field_reading t low high size p =
    let (below, above, most) = room t low high in
    let h = reading (offset_of t) (load_limit t) below above size p in
    record { reads = h.reads; bound = omega (arith, h.bound) }
