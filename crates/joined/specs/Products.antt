-- The sums of a joined weight as the code makes them: product by product in a row, row by row in a plane, plane by plane over the middle
-- channels. That they are the definition's sums is shown in `ProductsLaws`.
use Rattle.std.specs.Prelude.{List, ℕ, ◌+◌, ◌*◌, ◌-◌, ◌/◌, ◌%◌, ◌≤◌, ℤ, pos, ◌*ℤ◌, get_or}
use Rattle.algebra.specs.Sum.{sum_z}
use Rattle.layer.specs.declared.shape.Layer.{Layer}
use Rattle.layer.specs.Direct.{when, within}
use Rattle.joined.specs.declared.places.Part.{Part}
use Rattle.joined.specs.declared.places.Place.{Place}

-- ---- parts of a kernel, and places of the joined one

-- plane k of a kernel, and row i of a plane
abbrev pub plane_of : (side k : ℕ) → Part
plane_of side k = record { start = k * (side * side); side = side }

abbrev pub row_of : Part → ℕ → Part
row_of plane i = record { start = plane.start + i * plane.side; side = plane.side }

-- the flat place p of planes of `side` rows, one for each output channel and map channel
abbrev pub place_of : (inputs side p : ℕ) → Place
place_of inputs side p = record {
  output = p / (side * side) / inputs;
  input = p / (side * side) % inputs;
  row = p % (side * side) / side;
  column = p % (side * side) % side;
}

-- ---- the sums

-- of a row of the first kernel and a row of the second
module _ (first : List ℤ) (one : Part) (second : List ℤ) (other : Part) where
  -- weight j of the one, times weight b − j of the other
  unfoldable pub product_at : (b j : ℕ) → ℤ
  product_at b j = get_or first (one.start + j) (pos 0) *ℤ when (within j other.side b) (get_or second (other.start + (b - j)) (pos 0))

  unfoldable pub row_sum : (b : ℕ) → ℤ
  row_sum b = sum_z one.side (product_at b)

-- of a plane of the first kernel and a plane of the second
module _ (first : List ℤ) (one : Part) (second : List ℤ) (other : Part) where
  -- row i of the one, with row a − i of the other
  unfoldable pub row_at : (a b i : ℕ) → ℤ
  row_at a b i = when (within i other.side a) (row_sum first (row_of one i) second (row_of other (a - i)) b)

  unfoldable pub plane_sum : (a b : ℕ) → ℤ
  plane_sum a b = sum_z one.side (row_at a b)

-- through the middle channel n
unfoldable pub middle_sum : (first : Layer) (firstKernel : List ℤ) (second : Layer) (secondKernel : List ℤ) → Place → (n : ℕ) → ℤ
middle_sum first firstKernel second secondKernel place n =
    plane_sum firstKernel (plane_of first.side (n * first.inputs + place.input))
    secondKernel (plane_of second.side (place.output * first.outputs + n))
    place.row place.column

-- ---- what the code asks

-- a plane within each kernel, by the kernels' lengths
pub record PlanesHeld (first : ℕ) (plane : Part) (second : ℕ) (other : Part) : Type 0 where
  pub first_held : plane.start + plane.side * plane.side ≤ first
  pub second_held : other.start + other.side * other.side ≤ second
  pub side_high : plane.side ≤ 11
  pub other_low : 1 ≤ other.side
