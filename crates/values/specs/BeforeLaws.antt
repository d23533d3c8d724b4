-- The values in the parts before one, of either engine: the index of the part that holds a place, by the place's plane, row and column, then the count.
-- They rest on the laws of planes and of how far parts reach.
use Rattle.std.specs.Prelude.{◌≡◌, ℕ, suc, ◌+◌, ◌*◌, ◌/◌, ◌%◌, ◌<◌, ◌≤◌, ltb}
use Rattle.std.proofs.Math.Path.{refl}
use Rattle.std.proofs.Common.{sym, ap, ◌∙◌, div-lt_iff_lt-mul, div-add-mod', mod-lt, suc-mul, arith}
use Rattle.std.proofs.Math.Decide.{dec_lt}
use Rattle.std.proofs.Math.Arith.{digits_div, digits_mod}
use Rattle.algebra.specs.CountedLaws.{counted_same}
use Rattle.algebra.specs.PlanesLaws.{stacked_place}
use Rattle.layer.specs.declared.shape.Layer.{Layer}
use Rattle.layer.specs.Planned.{Planned}
use Rattle.layer.specs.Shape.{output_count, grid_step, tile_of, tile_total}
use Rattle.layer.specs.Strip.{strip_length, strip_columns, strip_of, strip_total}
use Rattle.layer.specs.PartLaws.{step_range, wanted_lt, part_some}
use Rattle.checks.specs.declared.method.Method.{Method}
use Rattle.checks.specs.declared.method.Method.TheVariants.{Tiles, Strips}
use Rattle.checks.specs.Engine.{engine_of}
use Rattle.checks.specs.EngineLaws.{lawful}
use Rattle.values.specs.Values.{values_in}
use Rattle.values.specs.PartSize.{part_height, part_width, parts_down, parts_across, values_up_to}
use Rattle.values.specs.ValuesLaws.{values_first, values_all}
use Rattle.values.specs.PlaneLaws.{places_before}
use Rattle.values.specs.PartSizeLaws.{height_range, width_range, held_none, own_row, rows_down}

-- the part at a plane, row and column of outputs
abbrev part_at : Method → Layer → (plane row column : ℕ) → ℕ
part_at method l plane row column =
    (plane * parts_down method l + row * grid_step l / part_height method l) * parts_across method l + column * grid_step l / part_width method l

module _ (method : Method) (l : Layer) (plan : Planned l) where
  -- ---- the parts

  part_is : (p : ℕ) → (engine_of method).part_of l p ≡ part_at method l (p / l.columns / l.rows) (p / l.columns % l.rows) (p % l.columns)
  unfolding tile_of strip_of
  part_is p = go method
    where
      go : (method : Method) → (engine_of method).part_of l p ≡ part_at method l (p / l.columns / l.rows) (p / l.columns % l.rows) (p % l.columns)
      go Tiles = stacked_place l.rows l.columns (part_at Tiles l) p plan.rows_low plan.columns_low
      go Strips =
          rw (rows_down l plan, own_row l (p / l.columns % l.rows) (step_range l plan.shape).0)
          (stacked_place l.rows l.columns (λ m r e. (m * l.rows + r) * strip_columns l + e * grid_step l / strip_length l) p plan.rows_low plan.columns_low)

  total_is : (engine_of method).total l ≡ l.outputs * parts_down method l * parts_across method l
  unfolding tile_total strip_total
  total_is = go method
    where
      go : (method : Method) → (engine_of method).total l ≡ l.outputs * parts_down method l * parts_across method l
      go Tiles = refl
      go Strips = rw (rows_down l plan) refl

  pub down_some : 0 < parts_down method l
  down_some = part_some l (part_height method l) l.rows (height_range method l plan.shape).0 plan.rows_low

  pub across_some : 0 < parts_across method l
  across_some = part_some l (part_width method l) l.columns (width_range method l plan.shape).0 plan.columns_low

  -- a part up to the total stands in a plane up to their count
  pub plane_le : (t : ℕ) → t ≤ (engine_of method).total l → t / parts_across method l / parts_down method l ≤ l.outputs
  plane_le t end = omega (arith, planes)
    where
      lines : t / parts_across method l < suc (l.outputs * parts_down method l)
      lines = (div-lt_iff_lt-mul across_some).1 (omega (arith, end, across_some, total_is, suc-mul (l.outputs * parts_down method l) (parts_across method l)))

      planes : t / parts_across method l / parts_down method l < suc l.outputs
      planes = (div-lt_iff_lt-mul down_some).1 (omega (arith, lines, down_some, suc-mul l.outputs (parts_down method l)))

  -- ---- the values before a part

  -- by its plane k, row of parts i and column of parts j
  before_part : (k i j : ℕ) → k < l.outputs → i < parts_down method l → j ≤ parts_across method l
      → values_in (engine_of method) l 0 ((k * parts_down method l + i) * parts_across method l + j) ≡ values_up_to method l k i j
  before_part k i j plane row column =
      values_first (engine_of method) l _
      ∙ counted_same (output_count l)
      (λ p below. ap (λ (t : ℕ). ltb t ((k * parts_down method l + i) * parts_across method l + j)) (part_is p))
      ∙ places_before l.outputs l.rows l.columns (parts_down method l) (parts_across method l)
      (λ r. r * grid_step l / part_height method l) (λ e. e * grid_step l / part_width method l)
      (λ r. wanted_lt l (part_height method l) l.rows r (height_range method l plan.shape).0)
      (λ e. wanted_lt l (part_width method l) l.columns e (width_range method l plan.shape).0)
      k i j plane row column

  -- by its index; before the total stand all parts
  pub values_before : (t : ℕ) → t ≤ (engine_of method).total l
      → values_in (engine_of method) l 0 t
      ≡ values_up_to method l (t / parts_across method l / parts_down method l) (t / parts_across method l % parts_down method l) (t % parts_across method l)
  values_before t end = go (dec_lt t ((engine_of method).total l))
    where
      line : ℕ
      line = t / parts_across method l

      go : Dec (t < (engine_of method).total l)
          → values_in (engine_of method) l 0 t ≡ values_up_to method l (line / parts_down method l) (line % parts_down method l) (t % parts_across method l)
      go (yes inside) =
          ap (values_in (engine_of method) l 0)
          (sym (ap (λ (q : ℕ). q * parts_across method l + t % parts_across method l) (div-add-mod' line (parts_down method l)) ∙ div-add-mod' t (parts_across method l)))
          ∙ before_part (line / parts_down method l) (line % parts_down method l) (t % parts_across method l)
          ((div-lt_iff_lt-mul down_some).1 ((div-lt_iff_lt-mul across_some).1 (omega (arith, total_is))))
          (mod-lt line down_some) (omega (arith, mod-lt t across_some))
      go (no outside) =
          let last : t ≡ (engine_of method).total l = omega arith in
          let whole : t ≡ l.outputs * parts_down method l * parts_across method l + 0 = omega (arith, total_is) in
          let lines : line ≡ l.outputs * parts_down method l + 0 = ap (λ (k : ℕ). k / parts_across method l) whole ∙ digits_div _ across_some ∙ omega arith in
          let column : t % parts_across method l ≡ 0 = ap (λ (k : ℕ). k % parts_across method l) whole ∙ digits_mod _ across_some in
          let plane : line / parts_down method l ≡ l.outputs = ap (λ (k : ℕ). k / parts_down method l) lines ∙ digits_div _ down_some in
          let row : line % parts_down method l ≡ 0 = ap (λ (k : ℕ). k % parts_down method l) lines ∙ digits_mod _ down_some in
          let no_rows = held_none l l.rows (part_height method l) in
          let no-columns = held_none l l.columns (part_width method l) in
          rw (plane, row, column, no_rows, no-columns, last, values_all (engine_of method) l (lawful method) plan) (omega arith)
