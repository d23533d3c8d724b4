-- Bounds of a layer's tile figures, so that arithmetic on them does not wrap. They rest on the ranges of `Planned`.
use Rattle.std.specs.Prelude.{ℕ, ◌+◌, ◌*◌, ◌-◌, ◌≤◌}
use Rattle.std.proofs.Math.Nat.{div-le_self}
use Rattle.std.proofs.Common.{mul-le-mul, arith, pow_mono}
use Rattle.base.specs.Number.{ceiling_div}
use Rattle.fermat.specs.Field.{transform_length}
use Rattle.layer.specs.PlannedLaws.{cond_le}
use Rattle.layer.specs.Planned.{InRange, Planned, Wanted}
use Rattle.layer.specs.declared.shape.Layer.{Layer}
use Rattle.layer.specs.Shape.{is_conv, tile_side, span, tile_rows, tile_columns, tile_total}

module _ (l : Layer) (r : InRange l) where
  pub length_low : 32 ≤ transform_length l.field
  length_low = pow_mono {i = 5} {j = l.field + 1} (omega (arith, r.field_low))

  pub length_high : transform_length l.field ≤ 64
  length_high = pow_mono {i = l.field + 1} {j = 6} (omega (arith, r.field_high))

  pub tile_side_low : 22 ≤ tile_side l
  tile_side_low = omega (arith, length_low, r.side_high)

  pub tile_side_high : tile_side l ≤ 64
  tile_side_high = omega (arith, length_low, length_high, r.side_low, r.side_high)

pub rows_wanted : (l : Layer) → Planned l → Wanted l l.rows
rows_wanted l p = record { shape = p.shape; count_low = p.rows_low; count_high = omega (arith, p.rows_end, p.full_height_high) }

pub columns_wanted : (l : Layer) → Planned l → Wanted l l.columns
columns_wanted l p = record { shape = p.shape; count_low = p.columns_low; count_high = omega (arith, p.columns_end, p.full_width_high) }

module _ (l : Layer) (count : ℕ) (w : Wanted l count) where
  pub steps_high : (count - 1) * l.stride ≤ 8228
  steps_high = mul-le-mul {n₂ = 2057} {m₂ = 4} (omega (arith, w.count_high)) w.shape.stride_high

  pub span_high : span l count ≤ 8229
  span_high = cond_le (is_conv l) (omega (arith, steps_high)) (omega (arith, w.count_high))

  -- parts of any length that parts have
  pub parts_high : (length : ℕ) → length ≤ 256 → ceiling_div (span l count) length ≤ 8484
  unfolding ceiling_div
  parts_high length high = omega (arith, div-le_self (span l count + length - 1) length, span_high)

  pub across_high : ceiling_div (span l count) (tile_side l) ≤ 8292
  unfolding ceiling_div
  across_high = omega (arith, div-le_self (span l count + tile_side l - 1) (tile_side l), span_high, tile_side_high l w.shape)

-- the tiles of a layer are few
module _ (l : Layer) (plan : Planned l) where
  pub tile_rows_high : tile_rows l ≤ 8292
  tile_rows_high = across_high _ _ (rows_wanted l plan)

  pub tile_columns_high : tile_columns l ≤ 8292
  tile_columns_high = across_high _ _ (columns_wanted l plan)

  pub ruleset tile_lines_high = (tile_rows_high, tile_columns_high)

  pub total_high : tile_total l ≤ 64 * 8292 * 8292
  unfolding tile_total
  total_high = mul-le-mul (mul-le-mul plan.shape.outputs_high tile_rows_high) tile_columns_high
