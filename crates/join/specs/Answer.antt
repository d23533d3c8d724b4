-- What `join` answers, in the order of the request, and what it leaves in `joined`.
use Rattle.std.specs.Prelude.{Bool, ◌&&◌, List, [], ◌∷◌, ◌++◌, ℕ, eqb, leb, ℤ, pos, neg_ℤ, length}
use Rattle.std.specs.Int.Signed.{le_z}
use Rattle.algebra.specs.Every.{every}
use Rattle.base.specs.Rules.{Rule, rule, first_broken, inside, outcome}
use Rattle.layer.specs.declared.shape.Layer.{Layer}
use Rattle.layer.specs.Shape.{kernel_count}
use Rattle.joined.specs.Joined.{joined_layer, joined_at, joined_kernel}

-- 26, of each layer: it is CONV with S 1 and P 0; C, M and K are in range
abbrev pub figure_rules : Layer → List Rule
figure_rules l =
    rule 26 (eqb l.kind 0)
    ∷ rule 26 (eqb l.stride 1)
    ∷ rule 26 (eqb l.padding 0)
    ∷ rule 26 (inside 1 64 l.inputs)
    ∷ rule 26 (inside 1 64 l.outputs)
    ∷ rule 26 (inside 1 11 l.side)
    ∷ []

-- 26, of its kernel: it has M·C·K² weights
abbrev pub count_rules : Layer → (weights : ℕ) → List Rule
count_rules l weights = rule 26 (eqb weights (kernel_count l)) ∷ []

abbrev pub filter_rules : Layer → (weights : ℕ) → List Rule
filter_rules l weights = figure_rules l ++ count_rules l weights

-- 26, of the pair: the first's M is the second's C, and `joined` has room for the joined kernel. 27: its side is at most 11
abbrev pub pair_rules : (first second : Layer) (room : ℕ) → List Rule
pair_rules first second room =
    rule 26 (eqb first.outputs second.inputs)
    ∷ rule 26 (eqb room (kernel_count (joined_layer first second)))
    ∷ rule 27 (leb (joined_layer first second).side 11)
    ∷ []

-- a weight fits 16 signed bits
abbrev pub fits : ℤ → Bool
fits z = le_z (neg_ℤ (pos 32768)) z && le_z z (pos 32767)

unfoldable pub weights_fit : (first : Layer) (firstKernel : List ℤ) (second : Layer) (secondKernel : List ℤ) → Bool
weights_fit first firstKernel second secondKernel =
    every (kernel_count (joined_layer first second)) (λ p. fits (joined_at first firstKernel second secondKernel p))

-- 28: every weight fits
abbrev pub weight_rules : (first : Layer) (firstKernel : List ℤ) (second : Layer) (secondKernel : List ℤ) → List Rule
weight_rules first firstKernel second secondKernel = rule 28 (weights_fit first firstKernel second secondKernel) ∷ []

-- ---- the answer

-- 26 and 27
abbrev pub shape_rules : (first : Layer) (firstWeights : ℕ) (second : Layer) (secondWeights room : ℕ) → List Rule
shape_rules first firstWeights second secondWeights room =
    (filter_rules first firstWeights ++ filter_rules second secondWeights) ++ pair_rules first second room

unfoldable pub join_code : (first : Layer) (firstKernel : List ℤ) (second : Layer) (secondKernel : List ℤ) (room : ℕ) → ℕ
join_code first firstKernel second secondKernel room =
    first_broken (
    shape_rules first (length firstKernel) second (length secondKernel) room ++ weight_rules first firstKernel second secondKernel
    )

-- what is left in `joined`
abbrev pub join_left : (first : Layer) (firstKernel : List ℤ) (second : Layer) (secondKernel joined : List ℤ) → List ℤ
join_left first firstKernel second secondKernel joined =
    outcome (join_code first firstKernel second secondKernel (length joined)) (joined_kernel first firstKernel second secondKernel) joined
