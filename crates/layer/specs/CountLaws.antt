-- Bounds of the counts of a layer's values, and of the products on the way to them, so that no product wraps. They rest on the ranges of
-- `Planned`.
use Rattle.std.specs.Prelude.{◌*◌, ◌≤◌}
use Rattle.std.proofs.Common.{mul-le-mul}
use Rattle.layer.specs.Planned.{InRange, Planned}
use Rattle.layer.specs.declared.shape.Layer.{Layer}
use Rattle.layer.specs.Shape.{map_count, kernel_count, output_count}
use Rattle.layer.specs.TileSizeLaws.{rows_wanted, columns_wanted}

module _ (l : Layer) (r : InRange l) where
  pub map_rows_high : l.inputs * l.height ≤ 32768
  map_rows_high = mul-le-mul {n₂ = 64} {m₂ = 512} r.inputs_high r.height_high

  pub map_high : map_count l ≤ 16777216
  map_high = mul-le-mul {n₂ = 32768} {m₂ = 512} map_rows_high r.width_high

  pub weights_high : l.side * l.side ≤ 121
  weights_high = mul-le-mul {n₂ = 11} {m₂ = 11} r.side_high r.side_high

  pub planes_high : l.outputs * l.inputs ≤ 4096
  planes_high = mul-le-mul {n₂ = 64} {m₂ = 64} r.outputs_high r.inputs_high

  pub kernel_high : kernel_count l ≤ 495616
  kernel_high = mul-le-mul {n₂ = 4096} {m₂ = 121} planes_high weights_high

module _ (l : Layer) (p : Planned l) where
  pub output_rows_high : l.outputs * l.rows ≤ 131712
  output_rows_high = mul-le-mul {n₂ = 64} {m₂ = 2058} p.shape.outputs_high (rows_wanted l p).count_high

  pub output_high : output_count l ≤ 271063296
  output_high = mul-le-mul {n₂ = 131712} {m₂ = 2058} output_rows_high (columns_wanted l p).count_high
