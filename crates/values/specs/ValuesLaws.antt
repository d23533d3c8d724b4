-- Laws of the values in parts, of any engine: in no part, in two runs of parts in a row, and in all parts. They rest on the laws of counts.
use Rattle.std.specs.Prelude.{◌≡◌, ℕ, ◌+◌, ◌≤◌}
use Rattle.std.proofs.Common.{sym, ◌∙◌, arith, le-leb, lt-ltb}
use Rattle.std.proofs.Math.Path.{ap}
use Rattle.std.proofs.Math.Dec.{ltb}
use Rattle.algebra.specs.Counted.{counted}
use Rattle.algebra.specs.CountedLaws.{counted_same, counted_all, counted_between}
use Rattle.layer.specs.declared.shape.Layer.{Layer}
use Rattle.layer.specs.Planned.{Planned}
use Rattle.layer.specs.Shape.{output_count}
use Rattle.checks.specs.Engine.{Engine, Lawful}
use Rattle.values.specs.Values.{in_parts, values_in}

module _ (engine : Engine) (l : Layer) where
  -- in a buffer of M·h·w values they are counted over its places
  pub values_places : (places from to : ℕ) → places ≡ output_count l → values_in engine l from to ≡ counted places (in_parts engine l from to)
  unfolding values_in
  values_places places from to same = ap (λ (n : ℕ). counted n (in_parts engine l from to)) (sym same)

  -- those in the parts before `to`
  abbrev before : (to : ℕ) → ℕ
  before to = counted (output_count l) (λ p. ltb (engine.part_of l p) to)

  between : (from to : ℕ) → from ≤ to → before from + values_in engine l from to ≡ before to
  unfolding values_in
  between from to order = counted_between (output_count l) (engine.part_of l) from to order

  pub values_none : (from : ℕ) → values_in engine l from from ≡ 0
  values_none from = omega (arith, between from from (omega arith))

  pub values_then : (from middle to : ℕ) → from ≤ middle → middle ≤ to
      → values_in engine l from middle + values_in engine l middle to ≡ values_in engine l from to
  values_then from middle to a b = omega (arith, between from middle a, between middle to b, between from to (omega arith))

  pub values_grow : (from mid to : ℕ) → from ≤ mid → mid ≤ to → values_in engine l from mid ≤ values_in engine l from to
  values_grow from mid to order more = omega (arith, values_then from mid to order more)

  -- from part 0 on, one test is enough
  pub values_first : (to : ℕ) → values_in engine l 0 to ≡ counted (output_count l) (λ p. ltb (engine.part_of l p) to)
  unfolding values_in
  values_first to = counted_same (output_count l) {f = in_parts engine l 0 to} {g = λ p. ltb (engine.part_of l p) to} (λ p below. rw (le-leb 0 (engine.part_of l p) (omega arith)))

  -- all parts of a planned layer hold all M·h·w values
  pub values_all : Lawful engine → Planned l → values_in engine l 0 (engine.total l) ≡ output_count l
  values_all lawful plan =
      values_first (engine.total l)
      ∙ counted_all (output_count l) (λ p below. lt-ltb (engine.part_of l p) (engine.total l) (lawful.covers l plan p below))
