-- The kernel's part and the window's part are lent, and the product of what comes back is added. Adding has the laws.
use mathlib.Core.Path.{◌≡◌, ap, ◌∙◌}
use mathlib.Core.List.{List}
use Prim.Native.Nat.{ℕ, ◌+◌, ◌*◌, ◌-◌, ◌≤◌, ◌<◌}
use native.Mathlib.Nat.{mul-le-mul}
use native.Mathlib.Omega.{arith}
use lib.ListN.{length}
use borrow.Rule.Slice.PartMut.{mid_of, put_mid, same_len_mid}
use Rattle.passes.specs.PartLaws.{part_length}
use Rattle.spectrum.specs.LendingLaws.{Lending}
use Rattle.fermat.specs.Field.{transform_length}
use Rattle.layer.specs.declared.shape.Layer.{Layer}
use Rattle.layer.specs.Planned.{InRange}
use Rattle.layer.specs.Direct.{plane_of}
use Rattle.layer.specs.TileSizeLaws.{length_high}
use Rattle.load.proofs.LoadLaws.{plane_below}
use Rattle.tile.specs.Channel.{area}
use Rattle.tile.proofs.KernelReady.{kernel_lent}
use Rattle.tile.proofs.Adding.{Transformed, transformed, accumulate_asks, kernel_added, added_next}
use Rattle.tile.proofs.channel.add_channel.Goals as goal
use Rattle.tile.proofs.channel.add_channel.Goals.{After-planes_to-planes, After-window_spectrum}

-- scratch in three parts of n * n words: the second and the third are lent and come back
module _ (l : Layer) {n : ℕ} (side : n ≡ transform_length l.field) where
  area_is : n * n ≡ area l
  area_is = ap (λ (i : ℕ). i * i) side

  area_high : InRange l → n * n ≤ 4096
  area_high range =
      let most : n ≤ 64 = omega (arith, length_high l range) in
      mul-le-mul most most

  module _ (xs : List ℕ) (lent : 3 * area l ≤ length xs) where
    room : 3 * (n * n) ≤ length xs
    room = omega (arith, area_is)

    kernel_part : length (mid_of (n * n) (2 * (n * n) - n * n) xs) ≡ area l
    kernel_part = part_length (n * n) (2 * (n * n) - n * n) xs (omega (arith, room)) ∙ omega (arith, area_is)

    module _ (ks : List ℕ) (same : length ks ≡ length (mid_of (n * n) (2 * (n * n) - n * n) xs)) where
      scratch_room : 3 * (n * n) ≤ length (put_mid (n * n) (2 * (n * n) - n * n) xs ks)
      scratch_room = omega (arith, room, same_len_mid (n * n) (2 * (n * n) - n * n) xs ks same)

      window_part : length (mid_of (2 * (n * n)) (3 * (n * n) - 2 * (n * n)) (put_mid (n * n) (2 * (n * n) - n * n) xs ks)) ≡ area l
      window_part = part_length (2 * (n * n)) (3 * (n * n) - 2 * (n * n)) _ (omega (arith, scratch_room)) ∙ omega (arith, area_is)

      lending : (ws : List ℕ)
          → length ws ≡ length (mid_of (2 * (n * n)) (3 * (n * n) - 2 * (n * n)) (put_mid (n * n) (2 * (n * n) - n * n) xs ks))
          → Lending (area l) (n * n) (2 * (n * n) - n * n) (2 * (n * n)) (3 * (n * n) - 2 * (n * n)) xs ks ws
      lending ws back =
          let is = area_is in
          record {
            kernel_at_lem = is;
            kernel_count_lem = omega arith;
            window_at_lem = omega arith;
            window_count = omega arith;
            room = lent;
            kernel_length = same ∙ kernel_part;
            window_length = back ∙ window_part;
          }

pub overflow_mul-area : goal.overflow_mul-area
overflow_mul-area c = omega (arith, area_high c.args.layer c.transform_length-n.ensures c.requires.lent_lengths.0.plan.shape)

pub overflow_mul-window : goal.overflow_mul-window
overflow_mul-window c = omega (arith, area_high c.args.layer c.transform_length-n.ensures c.requires.lent_lengths.0.plan.shape)

pub overflow_mul-end : goal.overflow_mul-end
overflow_mul-end c = omega (arith, area_high c.args.layer c.transform_length-n.ensures c.requires.lent_lengths.0.plan.shape)

pub planes_to-planes-requires : goal.planes_to-planes-requires
planes_to-planes-requires c =
    let r = c.requires.lent_lengths.0.plan.shape in
    (omega (arith, c.requires.lent_lengths.1.channel, r.outputs_high), r.inputs_high)

-- the plane of the kernel
module _ (c : After-planes_to-planes) where
  abbrev plane : ℕ
  plane = c.planes_to-planes.result.first + c.args.c * c.planes_to-planes.result.step

  plane_is : let a = c.args in plane ≡ plane_of a.layer a.origin.channel a.c
  plane_is = c.planes_to-planes.ensures c.args.c

  plane_lt : let l = c.args.layer in plane < l.outputs * l.inputs
  plane_lt =
      omega (arith, plane_is, plane_below c.args.layer c.args.origin.channel c.args.c c.requires.lent_lengths.1.channel c.requires.lent_lengths.2)

  plane_high : plane < 4096
  plane_high =
      let r = c.requires.lent_lengths.0.plan.shape in
      omega (arith, plane_lt, mul-le-mul r.outputs_high r.inputs_high)

pub overflow_mul-plane : goal.overflow_mul-plane
overflow_mul-plane c = omega (arith, plane_high (goal.at.overflow_mul-plane c).After-planes_to-planes)

pub overflow_add-plane : goal.overflow_add-plane
overflow_add-plane c = omega (arith, plane_high (goal.at.overflow_add-plane c).After-planes_to-planes)

pub offset_bounds-scratch-area : goal.offset_bounds-scratch-area
offset_bounds-scratch-area c = omega (arith, area_high c.args.layer c.transform_length-n.ensures c.requires.lent_lengths.0.plan.shape)

pub slice_bounds-ready_kernel-end : goal.slice_bounds-ready_kernel-end
slice_bounds-ready_kernel-end c = omega (arith, room c.args.layer c.transform_length-n.ensures c.args.scratch.now c.requires.lent_lengths.0.scratch_low)

pub ready_kernel-requires : goal.ready_kernel-requires
ready_kernel-requires c =
    let lent = c.requires.lent_lengths.0 in
    let side = c.transform_length-n.ensures in
    let is = area_is c.args.layer side in
    let area : ℕ = c.transform_length-n.result * c.transform_length-n.result in
    let planes = (goal.at.ready_kernel-requires c).After-planes_to-planes in
    record {
      in_range = (lent.plan.shape, kernel_part c.args.layer side c.args.scratch.now lent.scratch_low);
      kernel_len = (lent.kernel_length, plane_lt planes);
      kernel_ready = λ kept.
          rw (plane_is planes) (kernel_lent (c.requires.kernel_kept kept) area (2 * area - area) is (omega (arith, is)));
    }

pub offset_bounds-scratch-window : goal.offset_bounds-scratch-window
offset_bounds-scratch-window c = omega (arith, area_high c.args.layer c.transform_length-n.ensures c.requires.lent_lengths.0.plan.shape)

pub slice_bounds-window_spectrum-count : goal.slice_bounds-window_spectrum-count
slice_bounds-window_spectrum-count c = omega arith

pub slice_bounds-window_spectrum-start : goal.slice_bounds-window_spectrum-start
slice_bounds-window_spectrum-start c = omega arith

pub slice_bounds-window_spectrum-end : goal.slice_bounds-window_spectrum-end
slice_bounds-window_spectrum-end c =
    omega (
      arith,
      scratch_room c.args.layer c.transform_length-n.ensures c.args.scratch.now c.requires.lent_lengths.0.scratch_low
          c.ready_kernel.new.words c.ready_kernel.auto.words,
    )

pub window_spectrum-requires : goal.window_spectrum-requires
window_spectrum-requires c =
    let lent = c.requires.lent_lengths in
    let kernel = c.ready_kernel in
    let part = window_part c.args.layer c.transform_length-n.ensures c.args.scratch.now lent.0.scratch_low kernel.new.words kernel.auto.words in
    record { in_range = (lent.0.plan.shape, part); map_len = (lent.0.map-length, lent.2, lent.1.row, lent.1.column) }

-- the window's part comes back: both transforms stand in scratch
both : (c : After-window_spectrum) → let g = c.args in
    let a = c.transform_length-n.result * c.transform_length-n.result in
    Transformed g.layer g.map.now g.kernel.now g.origin g.c g.scratch.now
    (put_mid (2 * a) (3 * a - 2 * a) (put_mid a (2 * a - a) g.scratch.now c.ready_kernel.new.words) c.window_spectrum.new.words)
both c =
    let g = c.args in
    transformed g.layer g.map.now g.kernel.now g.origin
    (lending g.layer c.transform_length-n.ensures g.scratch.now c.requires.lent_lengths.0.scratch_low
    c.ready_kernel.new.words c.ready_kernel.auto.words c.window_spectrum.new.words c.window_spectrum.auto.words)
    (rw (c.planes_to-planes.ensures g.c) at c.ready_kernel.ensures) c.window_spectrum.ensures

pub accumulate_in-requires : goal.accumulate_in-requires
accumulate_in-requires c =
    let g = c.args in
    let ready = both (goal.at.accumulate_in-requires c).After-window_spectrum in
    let (sizes, words) =
    accumulate_asks g.layer g.map.now g.kernel.now g.origin c.requires.lent_lengths.0.plan ready
    (area_is g.layer c.transform_length-n.ensures) c.requires.lent_lengths.2 c.requires.by_index in
    record { le_field = sizes; by_index = words.0; by_index_2 = words.1 }

pub returns : goal.returns
returns c =
    let g = c.args in
    let plan = c.requires.lent_lengths.0.plan in
    let is = area_is g.layer c.transform_length-n.ensures in
    let ready = both (goal.at.returns c).After-window_spectrum in
    record {
      adds = added_next g.layer g.map.now g.kernel.now g.origin plan ready is c.accumulate_in.ensures c.accumulate_in.auto.scratch;
      kernel_kept_2 = kernel_added g.layer g.map.now g.kernel.now g.origin ready is c.accumulate_in.ensures;
    }
