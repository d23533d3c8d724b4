-- `store_columns` takes the step's own loop: the layer's step is from 1 to 4.
use mathlib.Core.Path.{◌≡◌}
use mathlib.Core.List.{List}
use Prim.Native.Nat.{ℕ, ◌≤◌}
use native.Mathlib.Omega.{arith}
use Rattle.fermat.specs.FieldSizeLaws.{power_high}
use Rattle.spectrum.specs.Value.{offset_of}
use Rattle.layer.specs.Planned.{Planned}
use Rattle.layer.specs.PartLaws.{step_range}
use Rattle.layer.specs.declared.shape.Layer.{Layer}
use Rattle.layer.specs.Shape.{grid_step}
use Rattle.store.specs.Held.{RowStorable}
use Rattle.strip.proofs.held.store_columns.Goals as goal

-- what the loop for a step asks, where the layer's step is that one
asked : (l : Layer) → Planned l → {count step offset : ℕ} (words : List ℕ) → RowStorable (offset_of l.field) 0 (grid_step l) count words
    → offset ≡ offset_of l.field → step ≡ grid_step l → (offset ≤ 2147483648) × RowStorable offset 0 step count words
asked l plan words fits offset_is step_is = rw (offset_is, step_is) (omega (arith, power_high l.field plan.shape.field_high), fits)

pub store_row-requires : goal.store_row-requires
store_row-requires c = asked _ c.requires.0 c.args.words.now c.requires.1 c.offset_of-offset.ensures (omega (arith, c.grid_step.ensures, c.in-1.is))

pub store_row-requires-in-2 : goal.store_row-requires-in-2
store_row-requires-in-2 c = asked _ c.requires.0 c.args.words.now c.requires.1 c.offset_of-offset.ensures (omega (arith, c.grid_step.ensures, c.in-2.is))

pub store_row-requires-in-3 : goal.store_row-requires-in-3
store_row-requires-in-3 c = asked _ c.requires.0 c.args.words.now c.requires.1 c.offset_of-offset.ensures (omega (arith, c.grid_step.ensures, c.in-3.is))

pub store_row-requires-in_default : goal.store_row-requires-in_default
store_row-requires-in_default c =
    asked _ c.requires.0 c.args.words.now c.requires.1 c.offset_of-offset.ensures
    (omega (arith, c.grid_step.ensures, c.in_default, step_range _ c.requires.0.shape))
