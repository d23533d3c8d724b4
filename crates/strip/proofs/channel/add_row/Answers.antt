-- The kernel row's part and the grid row's part are lent, and the product of what comes back is added. Adding has the laws.
use mathlib.Core.Path.{◌≡◌, ◌∙◌}
use mathlib.Core.List.{List}
use Prim.Native.Nat.{ℕ, ◌+◌, ◌*◌, ◌≤◌, ◌<◌}
use native.Mathlib.Nat.{mul-le-mul}
use native.Mathlib.Omega.{arith}
use lib.ListN.{length}
use borrow.Rule.Slice.PartMut.{mid_of, put_mid, same_len_mid}
use Rattle.passes.specs.PartLaws.{part_length}
use Rattle.spectrum.specs.LendingLaws.{Lending}
use Rattle.layer.specs.Direct.{plane_of}
use Rattle.layer.specs.Strip.{strip_words}
use Rattle.load.proofs.LoadLaws.{plane_below}
use Rattle.strip.proofs.Adding.{RowsReady, rows_ready, accumulate_asks, added_row}
use Rattle.strip.proofs.channel.add_row.Goals as goal
use Rattle.strip.proofs.channel.add_row.Goals.{After-line_spectrum, After-planes_to-planes}

pub planes_to-planes-requires : goal.planes_to-planes-requires
planes_to-planes-requires c =
    let r = c.requires.strip_lengths.0.plan.shape in
    (omega (arith, c.requires.strip_lengths.1.channel, r.outputs_high), r.inputs_high)

-- the plane of the kernel
module _ (c : After-planes_to-planes) where
  abbrev plane : ℕ
  plane = c.planes_to-planes.result.first + c.args.c * c.planes_to-planes.result.step

  plane_is : let a = c.args in plane ≡ plane_of a.layer a.origin.channel a.c
  plane_is = c.planes_to-planes.ensures c.args.c

  plane_lt : let l = c.args.layer in plane < l.outputs * l.inputs
  plane_lt =
      let a = c.args in
      omega (arith, plane_is, plane_below a.layer a.origin.channel a.c c.requires.strip_lengths.1.channel c.requires.strip_lengths.2)

  plane_high : plane < 4096
  plane_high =
      let r = c.requires.strip_lengths.0.plan.shape in
      omega (arith, plane_lt, mul-le-mul r.outputs_high r.inputs_high)

pub overflow_mul-plane : goal.overflow_mul-plane
overflow_mul-plane c = omega (arith, plane_high (goal.at.overflow_mul-plane c).After-planes_to-planes)

pub overflow_add-plane : goal.overflow_add-plane
overflow_add-plane c = omega (arith, plane_high (goal.at.overflow_add-plane c).After-planes_to-planes)

pub slice_bounds-weights_spectrum-end : goal.slice_bounds-weights_spectrum-end
slice_bounds-weights_spectrum-end c = omega (arith, c.requires.strip_lengths.0.scratch_low)

pub weights_spectrum-requires : goal.weights_spectrum-requires
weights_spectrum-requires c =
    let lent = c.requires.strip_lengths.0 in
    let length = part_length 256 256 c.args.scratch.now (omega (arith, lent.scratch_low)) in
    record {
      in_range = (lent.plan.shape, lent.field, length, c.requires.strip_lengths.3);
      kernel_len = (lent.kernel_length, plane_lt (goal.at.weights_spectrum-requires c).After-planes_to-planes);
    }

-- the kernel row's part comes back: scratch was xs, the part is ks now
module _ (xs ks : List ℕ) (low : strip_words ≤ length xs) (kept : length ks ≡ length (mid_of 256 256 xs)) where
  kernel_length : length ks ≡ 256
  kernel_length = kept ∙ part_length 256 256 xs (omega (arith, low))

  room : 768 ≤ length (put_mid 256 256 xs ks)
  room = omega (arith, low, same_len_mid 256 256 xs ks kept)

  -- and the part for the grid row is lent
  window_length : length (mid_of 512 256 (put_mid 256 256 xs ks)) ≡ 256
  window_length = part_length 512 256 (put_mid 256 256 xs ks) (omega (arith, room))

pub slice_bounds-line_spectrum-end : goal.slice_bounds-line_spectrum-end
slice_bounds-line_spectrum-end c =
    omega (
      arith,
      room c.args.scratch.now c.weights_spectrum.new.words c.requires.strip_lengths.0.scratch_low c.weights_spectrum.auto.words,
    )

pub line_spectrum-requires : goal.line_spectrum-requires
line_spectrum-requires c =
    let lent = c.requires.strip_lengths.0 in
    let length = window_length c.args.scratch.now c.weights_spectrum.new.words lent.scratch_low c.weights_spectrum.auto.words in
    record {
      in_range = (lent.plan.shape, lent.field, length, c.requires.strip_lengths.1.shows.fitting);
      map_len = (lent.map-length, c.requires.strip_lengths.2);
    }

-- the grid row's part comes back: both transforms stand in scratch
module _ (c : After-line_spectrum) where
  abbrev xs : List ℕ
  xs = c.args.scratch.now

  abbrev ks : List ℕ
  ks = c.weights_spectrum.new.words

  abbrev ws : List ℕ
  ws = c.line_spectrum.new.words

  lending : Lending 256 256 256 512 256 xs ks ws
  lending =
      let low = c.requires.strip_lengths.0.scratch_low in
      let kept = c.weights_spectrum.auto.words in
      record {
        kernel_at_lem = omega arith;
        kernel_count_lem = omega arith;
        window_at_lem = omega arith;
        window_count = omega arith;
        room = low;
        kernel_length = kernel_length xs ks low kept;
        window_length = c.line_spectrum.auto.words ∙ window_length xs ks low kept;
      }

  both : let g = c.args in
      RowsReady g.layer g.map.now g.kernel.now g.origin g.c g.a xs (put_mid 512 256 (put_mid 256 256 xs ks) ws)
  both =
      let g = c.args in
      rows_ready g.layer g.map.now g.kernel.now g.origin c.requires.strip_lengths.1 lending
      (rw (c.planes_to-planes.ensures g.c) at c.weights_spectrum.ensures) (rw c.requires.line_value at c.line_spectrum.ensures)

pub accumulate-requires : goal.accumulate-requires
accumulate-requires c =
    let g = c.args in
    let ready = both (goal.at.accumulate-requires c).After-line_spectrum in
    let (field, (small, most)) =
    accumulate_asks g.layer g.map.now g.kernel.now g.origin ready
    (omega (arith, c.requires.strip_lengths.3, c.requires.strip_lengths.0.plan.shape.side_high)) c.requires.by_index in
    record { room = field.2; by_index = small; by_index_2 = most }

pub returns : goal.returns
returns c =
    let g = c.args in
    let ready = both (goal.at.returns c).After-line_spectrum in
    let adds = c.accumulate.ensures in
    record {
      adds_row = added_row g.layer g.map.now g.kernel.now g.origin ready
          (omega (arith, c.requires.strip_lengths.0.plan.shape.side_high)) adds c.accumulate.auto.scratch;
      by_index_2 = λ i h. omega (arith, adds.bound i h, ready.changed.before i h, c.requires.by_index i h);
    }
