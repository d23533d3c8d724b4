-- Laws of a stage, row by row: which powers a row takes, a row that is still as it was lent, one row more, and row 0 at the end.
use mathlib.Core.Path.{◌≡◌, sym, ap, ◌∙◌, subst}
use mathlib.Core.Logic.{◌⊎◌, inl, inr}
use mathlib.Core.List.{List}
use Prim.Native.Nat.{ℕ, ◌+◌, ◌-◌, ◌*◌, ◌/◌, ◌^◌, ◌<◌, ◌≤◌}
use native.Mathlib.Nat.{zero-mul, mul-zero}
use native.Mathlib.Decide.{dec_lt}
use native.Mathlib.Omega.{arith}
use lib.Arith.{digits_div}
use lib.ListN.{length}
use Rattle.algebra.specs.Places.{Run}
use Rattle.algebra.specs.PlacesLaws.{part_ends}
use Rattle.passes.specs.Butterfly.{Step, Plain, Forward, Inverse, Relation, StepMakes, Paired, PairsAtMost, AtMost, Staged, Joined}
use Rattle.passes.specs.WordLaws.{plain_inverse}
use Rattle.passes.proofs.Pairs.{paired_again}

-- a place of row r
pub row_of_place : (r n i : ℕ) → Run (r * n) n i → i / n ≡ r
row_of_place r n i h =
    let e : i ≡ r * n + (i - r * n) = omega arith in
    ap (λ (k : ℕ). k / n) e ∙ digits_div r (omega arith)

-- a plain butterfly is that of every step with the power 1
pub plain_made : (step : Step) (b c t : ℕ) {u v y z : ℕ} → t ≡ 0 → StepMakes Plain b c 0 u v y z → StepMakes step b c t u v y z
plain_made Plain b c t e p = p
plain_made Forward b c t e p = rw e p
plain_made Inverse b c t {u} {v} {y} {z} e p =
    let whole : b ≡ b - t = omega arith in
    subst (λ (s : ℕ). Joined (2 ^ b + 1) (2 * c) (2 ^ s) u v y z) whole (plain_inverse b p)

-- pairs that no change has reached are at most what all words were at most
pub pairs_lent : {R : ℕ → Relation} {P Q : ℕ → Type 0} (c half : ℕ) (xs ys : List ℕ) → length xs ≡ 2 * half → AtMost c xs → Paired R P half xs ys
    → ((i : ℕ) → Q i → i < half) → ((i : ℕ) → Q i → P i → ⊥) → PairsAtMost c Q half ys
pairs_lent c half xs ys size small all inside apart i h =
    let l : i < half = inside i h in
    let same = (all i l).kept (apart i h) in
    (omega (arith, same.first, small i (omega arith)), omega (arith, same.second, small (half + i) (omega arith)))

module _ (step : Step) (b c unit half lanes : ℕ) where
  abbrev row_made : ℕ → Relation
  row_made i = StepMakes step b c (unit * (i / lanes))

  -- the state of the loop at row r: the rows from 1 to r − 1 are done
  abbrev pub Rows : ℕ → List ℕ → List ℕ → Type 0
  Rows r xs ys = Paired row_made (λ i. (lanes ≤ i) × (i < r * lanes)) half xs ys

  pub rows_longer : (r at t : ℕ) (xs ys zs : List ℕ) → 0 < r → at ≡ r * lanes → t ≡ unit * r → Rows r xs ys
      → Paired (λ _. StepMakes step b c t) (Run at lanes) half ys zs → Rows (r + 1) xs zs
  rows_longer r at t xs ys zs some ea et all new =
      paired_again row_made (λ _. StepMakes step b c t) half xs ys zs all new
      (λ i p q. omega arith)
      (λ i h. to i h (dec_lt i (r * lanes)))
      (λ i p. (p.0, omega (arith, next)))
      (λ i q. (omega (arith, part_ends 0 r lanes some, zero-mul lanes), omega (arith, next)))
      (λ i u v y z q made. subst (λ (e : ℕ). StepMakes step b c e u v y z) (et ∙ ap (λ (k : ℕ). unit * k) (sym (row_of_place r lanes i (here i q)))) made)
    where
      next : (r + 1) * lanes ≡ r * lanes + lanes
      next = omega arith

      here : (i : ℕ) → Run at lanes i → Run (r * lanes) lanes i
      here i q = (omega arith, omega arith)

      to : (i : ℕ) → (lanes ≤ i) × (i < (r + 1) * lanes) → Dec (i < r * lanes) → ((lanes ≤ i) × (i < r * lanes)) ⊎ Run at lanes i
      to i h (yes l) = inl (h.0, l)
      to i h (no l) = inr (omega arith, omega (arith, next))

  -- row 0 comes last
  pub rows_all : (rows : ℕ) (xs ys zs : List ℕ) → 0 < rows → Rows rows xs ys → Paired (λ _. StepMakes Plain b c 0) (Run 0 lanes) half ys zs
      → Staged step b c unit rows lanes half xs zs
  rows_all rows xs ys zs some all new =
      paired_again row_made (λ _. StepMakes Plain b c 0) half xs ys zs all new
      (λ i p q. omega arith)
      (λ i h. to i h (dec_lt i lanes))
      (λ i p. (omega arith, omega arith))
      (λ i q. (omega arith, omega (arith, part_ends 0 rows lanes some, zero-mul lanes)))
      (λ i u v y z q made. plain_made step b c (unit * (i / lanes)) (ap (λ (k : ℕ). unit * k) (row_of_place 0 lanes i (first i q)) ∙ mul-zero unit) made)
    where
      first : (i : ℕ) → Run 0 lanes i → Run (0 * lanes) lanes i
      first i q = (omega (arith, zero-mul lanes), omega (arith, zero-mul lanes))

      to : (i : ℕ) → Run 0 (rows * lanes) i → Dec (i < lanes) → ((lanes ≤ i) × (i < rows * lanes)) ⊎ Run 0 lanes i
      to i h (yes l) = inr (omega arith, omega arith)
      to i h (no l) = inl (omega arith, omega arith)
