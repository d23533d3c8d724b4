-- Bounds of the figures that the loads and the stores compute, so that arithmetic on them does not wrap.
use Rattle.std.specs.Prelude.{ℕ, ◌+◌, ◌*◌, ◌-◌, ◌^◌, ◌≤◌, ◌<◌}
use Rattle.std.proofs.Common.{mul-le-mul, mod-lt, arith, pow_mono}
use Rattle.std.proofs.Math.Arith.{digits_lt}
use Rattle.algebra.specs.PlacesLaws.{part_ends}
use Rattle.base.specs.Number.{ceiling_div}
use Rattle.base.specs.NumberLaws.{ceiling_starts}
use Rattle.fermat.specs.Field.{modulus, transform_length}
use Rattle.layer.specs.Planned.{InRange, Planned}
use Rattle.layer.specs.declared.shape.Layer.{Layer}
use Rattle.layer.specs.Shape.{grid_step, span, tile_rows, tile_columns, tile_row, tile_column}
use Rattle.layer.specs.TileSizeLaws.{length_low}
use Rattle.layer.specs.PartLaws.{span_is, step_range}
use Rattle.layer.specs.TileLaws.{tile_rows_some, tile_columns_some}

module _ (l : Layer) (r : InRange l) where
  pub modulus_low : 65537 ≤ modulus l.field
  modulus_low = omega (arith, pow_mono {i = 16} {j = 2 ^ l.field} (pow_mono {i = 4} {j = l.field} r.field_low))

  pub modulus_high : modulus l.field ≤ 4294967297
  modulus_high = omega (arith, pow_mono {i = 2 ^ l.field} {j = 32} (pow_mono {i = l.field} {j = 5} r.field_high))

  -- the end of a plane of the kernel
  pub plane_end : (plane : ℕ) → plane < l.outputs * l.inputs
      → plane * (l.side * l.side) + l.side * l.side ≤ l.outputs * l.inputs * (l.side * l.side)
  plane_end plane h = part_ends plane (l.outputs * l.inputs) (l.side * l.side) h

  -- a corner has room for the weights
  pub corner_room : l.side * l.side ≤ transform_length l.field * l.side
  corner_room = mul-le-mul {m₁ = l.side} {m₂ = l.side} (omega (arith, length_low l r, r.side_high)) (omega arith)

  -- the row and the place of a value of a map
  pub map_row : (channel y : ℕ) → channel < l.inputs → y < l.height → channel * l.height + y < l.inputs * l.height
  map_row channel y h k = digits_lt h k

  pub map_place : (channel y x : ℕ) → channel < l.inputs → y < l.height → x < l.width
      → (channel * l.height + y) * l.width + x < l.inputs * l.height * l.width
  map_place channel y x h k f = digits_lt (map_row channel y h k) f

-- the row and the column of tiles that a tile stands in
module _ (l : Layer) (planned : Planned l) (t : ℕ) where
  pub tile_row_lt : tile_row l t < tile_rows l
  tile_row_lt = mod-lt _ (tile_rows_some l planned)

  pub tile_column_lt : tile_column l t < tile_columns l
  tile_column_lt = mod-lt t (tile_columns_some l planned)

-- the grid place of a part of any length that begins before the last of `count` outputs
pub start_high : (l : Layer) (length count first index : ℕ) → InRange l → 0 < length → 1 ≤ count → first + count ≤ 2058
    → index < ceiling_div (span l count) length → first * grid_step l + index * length ≤ 10000
start_high l length count first index r long some end before =
    let last : (first + (count - 1)) * grid_step l ≤ 2057 * 4 = mul-le-mul {n₂ = 2057} {m₂ = 4} (omega arith) (step_range l r).1 in
    let begins : index * length < span l count = ceiling_starts (span l count) length index long before in
    omega (arith, span_is l count some)
