-- Values of a plane with zeros between them, seen from another place, and the plane itself as one with no zeros between. It rests on the
-- definitions of Direct and Windows alone.
use Rattle.std.specs.Prelude.{◌≡◌, List, ℕ, ◌+◌, ◌-◌, ◌≤◌, leb, ℤ}
use Rattle.std.proofs.Common.{sym, ◌∙◌, div-one, arith, le-leb}
use Rattle.std.proofs.Math.Nat.{mod-one}
use Rattle.std.proofs.Math.Decide.{dec_le}
use Rattle.std.proofs.lemmas.Bool.{lt-leb}
use Rattle.layer.specs.Windows.{spread, spaced}
use Rattle.layer.specs.Direct.{within, shifted}

-- u − p is v − q
spread_moved : (S n p u q v : ℕ) → u + q ≡ v + p → spread S p n u ≡ spread S q n v
unfolding spread
spread_moved S n p u q v e = rw (starts (dec_le p u), distance)
  where
    distance : u - p ≡ v - q
    distance = omega arith

    starts : Dec (p ≤ u) → leb p u ≡ leb q v
    starts (yes h) = le-leb p u h ∙ sym (le-leb q v (omega arith))
    starts (no h) = lt-leb p u (omega arith) ∙ sym (lt-leb q v (omega arith))

-- and so in rows and in columns
pub spaced_moved : (A B S : ℕ) (values : List ℤ) (k p u q v p' u' q' v' : ℕ) → u + p' ≡ u' + p → v + q' ≡ v' + q
    → spaced A B S values k p u q v ≡ spaced A B S values k p' u' q' v'
spaced_moved A B S values k p u q v p' u' q' v' row column =
    let down : u - p ≡ u' - p' = omega arith in
    let across : v - q ≡ v' - q' = omega arith in
    rw (spread_moved S A p u p' u' row, spread_moved S B q v q' v' column, down, across)

-- at a spacing of 1, the values stand next to one another
within-spread : (p n u : ℕ) → within p n u ≡ spread 1 p n u
unfolding spread
within-spread p n u = rw (mod-one, div-one)

pub shifted-spaced : (A B : ℕ) (values : List ℤ) (k p u q v : ℕ) → shifted A B values k p u q v ≡ spaced A B 1 values k p u q v
shifted-spaced A B values k p u q v = rw (within-spread p A u, within-spread q B v, div-one (u - p), div-one (v - q))
