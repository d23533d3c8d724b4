-- What the weights of an output meet: in CONV values of the map, in TCONV values of the map with S − 1 zeros between them. So both direct sums
-- are one form, `weighed`; the laws are in `WeighedLaws`.
use Rattle.std.specs.Prelude.{Bool, ◌&&◌, cond, List, ℕ, ◌+◌, ◌*◌, ◌-◌, ◌/◌, ◌%◌, leb, ltb, eqb, ℤ, ◌*ℤ◌}
use Rattle.algebra.specs.Sum.{sum_z}
use Rattle.algebra.specs.Planes.{cell}
use Rattle.layer.specs.declared.shape.Layer.{Layer}
use Rattle.layer.specs.Shape.{is_conv}
use Rattle.layer.specs.Direct.{when, shifted}

-- u − p is one of 0, S, 2S, .. (n − 1)S
unfoldable pub spread : (S p n u : ℕ) → Bool
spread S p n u = leb p u && (eqb ((u - p) % S) 0 && ltb ((u - p) / S) n)

-- v c a b is the value that the weight at row a, column b of plane (plane c) meets
unfoldable pub weighed : (C K : ℕ) (kernel : List ℤ) (plane : ℕ → ℕ) (v : ℕ → ℕ → ℕ → ℤ) → ℤ
weighed C K kernel plane v = sum_z C (λ c. sum_z K (λ a. sum_z K (λ b. cell K K kernel (plane c) a b *ℤ v c a b)))

-- the value at row u − p, column v − q of plane k with S − 1 zeros between its values; 0 outside
abbrev pub spaced : (A B S : ℕ) → List ℤ → (k p u q v : ℕ) → ℤ
spaced A B S values k p u q v = when (spread S p A u) (when (spread S q B v) (cell A B values k ((u - p) / S) ((v - q) / S)))

-- the value of map channel c that the weight at row a, column b meets at row i, column j of the full output
unfoldable pub met_by : Layer → List ℤ → (i j c a b : ℕ) → ℤ
met_by l map i j c a b =
    cond (is_conv l)
    (shifted l.height l.width map c l.padding (i * l.stride + a) l.padding (j * l.stride + b))
    (spaced l.height l.width l.stride map c a (i + l.padding) b (j + l.padding))
