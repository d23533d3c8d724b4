-- What is found of a part on the way to the values before it, as equations between numbers, and what these come to. It rests on the laws of the parts of
-- either engine.
use mathlib.Core.Path.{◌≡◌, sym}
use Prim.Native.Nat.{ℕ, ◌+◌, ◌*◌, ◌-◌, ◌/◌, ◌%◌, ◌≤◌}
use native.Mathlib.Numerals.{add-one}
use Rattle.base.specs.Number.{ceiling_div}
use Rattle.layer.specs.declared.shape.Layer.{Layer}
use Rattle.layer.specs.Planned.{Planned}
use Rattle.layer.specs.Shape.{span}
use Rattle.layer.specs.PartLaws.{step_range}
use Rattle.checks.specs.declared.method.Method.{Method}
use Rattle.checks.specs.Engine.{engine_of}
use Rattle.values.specs.Values.{values_in}
use Rattle.values.specs.PartSize.{part_height, part_width, held_before}
use Rattle.values.specs.PartSizeLaws.{height_range, width_range, held_high, held_grows}
use Rattle.values.specs.BeforeLaws.{plane_le, values_before}

pub record Found (method : Method) (l : Layer) (part height width down across above through left : ℕ) : Type 0 where
  pub height_is : height ≡ part_height method l
  pub width_is : width ≡ part_width method l
  pub down_is : down ≡ ceiling_div (span l l.rows) height
  pub across_is : across ≡ ceiling_div (span l l.columns) width
  pub above_is : above ≡ held_before l l.rows height (part / across % down)
  pub through_is : through ≡ held_before l l.rows height (part / across % down + 1)
  pub left_is : left ≡ held_before l l.columns width (part % across)

module _ {method : Method} {l : Layer} {part height width down across above through left : ℕ}
    (plan : Planned l) (end : part ≤ (engine_of method).total l) (found : Found method l part height width down across above through left)
  where
    pub found_plane : part / across / down ≤ l.outputs
    found_plane = rw (found.down_is, found.across_is, found.height_is, found.width_is) (plane_le method l plan part end)

    pub found_rows : above ≤ through
    found_rows = rw (found.above_is, found.through_is, add-one (part / across % down)) (held_grows l l.rows height (part / across % down))

    pub found_through : through ≤ l.rows
    found_through =
        rw (found.through_is, found.height_is)
        (held_high l l.rows (part_height method l) (part / across % down + 1) (step_range l plan.shape).0 (height_range method l plan.shape).0)

    pub found_left : left ≤ l.columns
    found_left =
        rw (found.left_is, found.width_is)
        (held_high l l.columns (part_width method l) (part % across) (step_range l plan.shape).0 (width_range method l plan.shape).0)

    pub found_values : (part / across / down * l.rows + above) * l.columns + (through - above) * left ≡ values_in (engine_of method) l 0 part
    found_values =
        rw (found.above_is, found.through_is, found.left_is, add-one (part / across % down))
        (rw (found.down_is, found.across_is, found.height_is, found.width_is) (sym (values_before method l plan part end)))
