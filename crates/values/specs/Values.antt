-- 02, E9: how many output values lie in parts of an engine, counted place by place.
use Rattle.std.specs.Prelude.{Bool, ◌&&◌, ℕ, leb, ltb}
use Rattle.algebra.specs.Counted.{counted}
use Rattle.layer.specs.declared.shape.Layer.{Layer}
use Rattle.layer.specs.Shape.{output_count}
use Rattle.checks.specs.Engine.{Engine}

module _ (engine : Engine) (l : Layer) where
  -- whether the flat output place p lies in one of the parts from `from` up to `to`
  abbrev pub in_parts : (from to p : ℕ) → Bool
  in_parts from to p = leb from (engine.part_of l p) && ltb (engine.part_of l p) to

  -- how many of the M·h·w places do
  unfoldable pub values_in : (from to : ℕ) → ℕ
  values_in from to = counted (output_count l) (in_parts from to)
