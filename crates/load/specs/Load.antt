-- 01, "Field and tile", and 02, E2: the load of an output channel and its limit.
use Rattle.std.specs.Prelude.{Bool, true, ◌&&◌, cond, List, [], ◌∷◌, ℕ, ◌*◌, ◌%◌, leb, eqb, ℤ, nat_abs}
use Rattle.algebra.specs.Every.{every}
use Rattle.algebra.specs.Planes.{cell}
use Rattle.algebra.specs.Sum.{sum}
use Rattle.algebra.specs.Greatest.{greatest}
use Rattle.layer.specs.Direct.{plane_of}
use Rattle.layer.specs.declared.shape.Layer.{Layer}
use Rattle.layer.specs.Shape.{is_conv}

-- the size of the weight at row a, column b of the plane from map channel c to output channel m
abbrev pub size_at : Layer → List ℤ → (m c a b : ℕ) → ℕ
size_at l kernel m c a b = nat_abs (cell l.side l.side kernel (plane_of l m c) a b)

-- the sum of the sizes of all weights that reach output channel m, over all map channels
unfoldable pub size_total : Layer → List ℤ → (m : ℕ) → ℕ
size_total l kernel m = sum l.inputs (λ c. sum l.side (λ a. sum l.side (λ b. size_at l kernel m c a b)))

-- row a leaves the remainder p by S, and column b the remainder q
abbrev pub in_group : (S p q a b : ℕ) → Bool
in_group S p q a b = eqb (a % S) p && eqb (b % S) q

-- the same sum over the weights of one group, over all map channels; 0 where the group has no weight
unfoldable pub group_total : Layer → List ℤ → (m S p q : ℕ) → ℕ
group_total l kernel m S p q =
    sum l.inputs (λ c. sum l.side (λ a. sum l.side (λ b. cond (in_group S p q a b) (size_at l kernel m c a b) 0)))

-- the greatest of the sums of the S × S groups
unfoldable pub greatest_group : Layer → List ℤ → (m : ℕ) → ℕ
greatest_group l kernel m = greatest l.stride (λ p. greatest l.stride (λ q. group_total l kernel m l.stride p q))

-- A times the sum of all sizes in CONV, A times the greatest group's in TCONV
unfoldable pub load : Layer → List ℤ → (m : ℕ) → ℕ
load l kernel m = l.peak * cond (is_conv l) (size_total l kernel m) (greatest_group l kernel m)

-- 32,768 in F_4, 2,147,483,647 in F_5
abbrev pub load_limit : ℕ → ℕ
load_limit field = cond (eqb field 4) 32768 2147483647

-- the load of every output channel is within the limit
unfoldable pub loads_fit : Layer → List ℤ → Bool
loads_fit l kernel = every l.outputs (λ m. leb (load l kernel m) (load_limit l.field))

-- no map value is above A or below −A
unfoldable pub within_peak : ℕ → List ℤ → Bool
within_peak peak [] = true
within_peak peak (value ∷ values) = leb (nat_abs value) peak && within_peak peak values
