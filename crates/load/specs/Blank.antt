-- 02, E10: a blank output channel, and layers that have none. The laws are in `BlankLaws`.
use Rattle.std.specs.Prelude.{Bool, not, List, ℕ, eqb, ℤ}
use Rattle.algebra.specs.Every.{every}
use Rattle.layer.specs.declared.shape.Layer.{Layer}
use Rattle.load.specs.Load.{size_at}

-- every weight that reaches output channel m is 0: from every map channel, in every row and column, so in TCONV of every group
unfoldable pub blank : Layer → List ℤ → (m : ℕ) → Bool
blank l kernel m = every l.inputs (λ c. every l.side (λ a. every l.side (λ b. eqb (size_at l kernel m c a b) 0)))

-- no output channel is blank
unfoldable pub none_blank : Layer → List ℤ → Bool
none_blank l kernel = every l.outputs (λ m. not (blank l kernel m))
