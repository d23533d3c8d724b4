-- What a planned layer gives of the crop in each direction, and that the output of the worst map is one of the full output.
use Rattle.std.specs.Prelude.{List, ℤ}
use Rattle.std.proofs.Common.{arith}
use Rattle.algebra.specs.GreatestLaws.{first_greatest_below}
use Rattle.layer.specs.declared.shape.Layer.{Layer}
use Rattle.layer.specs.Planned.{Planned}
use Rattle.load.specs.Load.{load}
use Rattle.worst.specs.WindowLaws.{first_window}
use Rattle.worst.specs.Worst.{worst_output}
use Rattle.worst.specs.Accepted.{Accepted, MadeFor, CropInRange}

pub rows_in_range : (l : Layer) → Planned l → CropInRange l l.height l.top l.rows
rows_in_range l p = record { shape = p.shape; extent_high = p.shape.height_high; end_high = omega (arith, p.rows_end, p.full_height_high) }

pub columns_in_range : (l : Layer) → Planned l → CropInRange l l.width l.left l.columns
columns_in_range l p = record { shape = p.shape; extent_high = p.shape.width_high; end_high = omega (arith, p.columns_end, p.full_width_high) }

pub worst_made_for : (l : Layer) (kernel : List ℤ) → Accepted l kernel → MadeFor l kernel (worst_output l kernel)
worst_made_for l kernel s =
    let w = first_window l s.whole in
    record {
      accepted = s;
      channel_in = first_greatest_below (load l kernel) l.outputs s.plan.shape.outputs_low;
      row_in = omega (arith, w.row_kept, s.plan.rows_end);
      column_in = omega (arith, w.column_kept, s.plan.columns_end);
    }
