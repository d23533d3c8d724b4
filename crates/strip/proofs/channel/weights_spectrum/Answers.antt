-- The row's weights are loaded, then transformed. LoadedRows has the laws.
use mathlib.Core.Path.{◌≡◌, ap, ◌∙◌}
use mathlib.Core.Bool.{Bool, true, false, cond}
use Prim.Native.Nat.{ℕ, ◌+◌, ◌*◌, ◌-◌, ◌≤◌, ◌<◌}
use native.Mathlib.Nat.{mul-le-mul}
use native.Mathlib.Omega.{arith}
use lib.Arith.{digits_lt}
use lib.ListN.{length, drop, length-drop}
use lib.Seq.{length-take-le}
use Rattle.algebra.specs.PlacesLaws.{part_ends}
use Rattle.layer.specs.CountLaws.{planes_high, kernel_high}
use Rattle.layer.specs.Shape.{is_conv}
use Rattle.layer.specs.declared.shape.Layer.{Layer}
use Rattle.window.specs.Window.{turned_index}
use Rattle.window.specs.Loaded.{HoldsWeights}
use Rattle.window.specs.LoadedLaws.{weights_lent}
use Rattle.strip.proofs.LoadedRows.{weights_most, weights_filled, weights_ready}
use Rattle.strip.proofs.channel.weights_spectrum.Goals as goal
use Rattle.strip.proofs.channel.weights_spectrum.Goals.{After-load_weights, After-stored_row}

-- a row turned round is a row
turned_lt : (l : Layer) (a : ℕ) → a < l.side → turned_index l a < l.side
turned_lt l a h = go (is_conv l)
  where
    go : (conv : Bool) → cond conv (l.side - 1 - a) a < l.side
    go true = omega arith
    go false = h

-- the row of the kernel is known, and ends within the kernel
module _ (c : After-stored_row) where
  abbrev l : Layer
  l = c.args.layer

  abbrev row : ℕ
  row = c.args.plane * l.side + c.stored_row.result

  row_lt : row < l.outputs * l.inputs * l.side
  row_lt = digits_lt c.requires.kernel_len.1 (omega (arith, c.stored_row.ensures, turned_lt l c.args.a c.requires.in_range.3))

  ends : row * l.side + l.side ≤ length c.args.kernel.now
  ends = omega (arith, part_ends row _ l.side row_lt, c.requires.kernel_len.0)

  small : (row * l.side + l.side ≤ 495616) × (row < 4096 * 11)
  small =
      let range = c.requires.in_range.0 in
      (omega (arith, ends, c.requires.kernel_len.0, kernel_high l range), omega (arith, row_lt, mul-le-mul (planes_high l range) range.side_high))

pub overflow_mul-from : goal.overflow_mul-from
overflow_mul-from c =
    let range = c.requires.in_range.0 in
    let few : c.args.plane ≤ 4096 = omega (arith, c.requires.kernel_len.1, planes_high _ range) in
    omega (arith, mul-le-mul few range.side_high)

pub overflow_add-from : goal.overflow_add-from
overflow_add-from c = omega (arith, small c)

pub overflow_mul-from-2 : goal.overflow_mul-from-2
overflow_mul-from-2 c = omega (arith, small (goal.at.overflow_mul-from-2 c).After-stored_row)

pub overflow_add-end : goal.overflow_add-end
overflow_add-end c = omega (arith, small (goal.at.overflow_add-end c).After-stored_row)

pub offset_bounds-kernel-from : goal.offset_bounds-kernel-from
offset_bounds-kernel-from c = omega (arith, small (goal.at.offset_bounds-kernel-from c).After-stored_row)

pub slice_bounds-load_weights-end : goal.slice_bounds-load_weights-end
slice_bounds-load_weights-end c = omega (arith, ends (goal.at.slice_bounds-load_weights-end c).After-stored_row)

pub load_weights-requires : goal.load_weights-requires
load_weights-requires c =
    let range = c.requires.in_range.0 in
    let known = (goal.at.load_weights-requires c).After-stored_row in
    let from : ℕ = row known * c.args.layer.side in
    let rest = drop from c.args.kernel.now in
    let size = length-take-le (from + c.args.layer.side - from) rest (omega (arith, length-drop from c.args.kernel.now, ends known)) in
    (range, omega (arith, size, c.requires.in_range.2, range.side_high))

-- the weights are loaded
module _ (c : After-load_weights) where
  size : length c.load_weights.new.words ≡ 256
  size = c.load_weights.auto.words ∙ c.requires.in_range.2

  -- they are the row's
  held : let a = c.args in let from = (a.plane * a.layer.side + c.stored_row.result) * a.layer.side in from + a.layer.side ≤ length a.kernel.now
      → HoldsWeights a.layer a.kernel.now from a.layer.side c.load_weights.new.words
  held within = weights_lent c.args.layer c.args.kernel.now _ _ _ (omega arith) within c.load_weights.ensures

pub row_spectrum-requires : goal.row_spectrum-requires
row_spectrum-requires c =
    let l = c.args.layer in
    let (range, field, length, below) = c.requires.in_range in
    let known = (goal.at.row_spectrum-requires c).After-load_weights in
    let row = held known (ends (goal.at.row_spectrum-requires c).After-stored_row) in
    (size known, weights_most l field (size known) range row, weights_filled l field (size known) range row)

pub returns : goal.returns
returns c =
    let l = c.args.layer in
    let known = (goal.at.returns c).After-load_weights in
    weights_ready l c.requires.in_range.1 (size known) (ap (λ (r : ℕ). (c.args.plane * l.side + r) * l.side) c.stored_row.ensures)
    (held known (ends (goal.at.returns c).After-stored_row)) (c.row_spectrum.auto.words ∙ size known) c.row_spectrum.ensures.row_spectrum c.row_spectrum.ensures.at_most
