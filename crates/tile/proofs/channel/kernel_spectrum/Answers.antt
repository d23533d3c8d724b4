-- The plane is loaded into the corner, which is lent, and transformed. KernelReady has what each step asks and leaves.
use Prim.Native.Nat.{◌-◌}
use native.Mathlib.Omega.{arith}
use lib.ListN.{length}
use Rattle.spectrum.specs.Corner.{corner_start}
use Rattle.tile.proofs.KernelReady.{Part, last_words, area_high, inside, whole_n, part_length, cornered, kernel_ready}
use Rattle.tile.proofs.channel.kernel_spectrum.Goals as goal
use Rattle.tile.proofs.channel.kernel_spectrum.Goals.{After-transform_length-n}

-- the part whose last words are lent
module _ (c : After-transform_length-n) where
  part : let n = c.transform_length-n.result in
      let xs = c.args.words.now in
      Part c.args.layer n (length xs - corner_start n c.args.layer.side) xs
  part = record {
    range = c.requires.in_range.0;
    side = c.transform_length-n.ensures;
    count = last_words c.args.words.now c.requires.in_range.0 c.transform_length-n.ensures c.requires.in_range.1;
    whole = c.requires.in_range.1;
  }

pub overflow_mul-from : goal.overflow_mul-from
overflow_mul-from c = omega (arith, area_high (part c))

pub overflow_mul-from-2 : goal.overflow_mul-from-2
overflow_mul-from-2 c =
    let part = part (goal.at.overflow_mul-from-2 c).After-transform_length-n in
    omega (arith, area_high part, inside part)

pub overflow_sub-from : goal.overflow_sub-from
overflow_sub-from c = inside (part (goal.at.overflow_sub-from c).After-transform_length-n)

pub offset_bounds-words-from : goal.offset_bounds-words-from
offset_bounds-words-from c = omega (arith, area_high (part (goal.at.offset_bounds-words-from c).After-transform_length-n))

pub slice_bounds-load_kernel-count : goal.slice_bounds-load_kernel-count
slice_bounds-load_kernel-count c = omega (arith, whole_n (part (goal.at.slice_bounds-load_kernel-count c).After-transform_length-n))

pub slice_bounds-load_kernel-start : goal.slice_bounds-load_kernel-start
slice_bounds-load_kernel-start c = omega (arith, whole_n (part (goal.at.slice_bounds-load_kernel-start c).After-transform_length-n))

pub load_kernel-requires : goal.load_kernel-requires
load_kernel-requires c =
    let part = part (goal.at.load_kernel-requires c).After-transform_length-n in
    record { in_range = (c.requires.in_range.0, part_length part); kernel_len = c.requires.kernel_len }

pub corner_spectrum-requires : goal.corner_spectrum-requires
corner_spectrum-requires c =
    let made = c.load_kernel in
    let part = part (goal.at.corner_spectrum-requires c).After-transform_length-n in
    (c.requires.in_range.0.field_high, cornered part made.new.words made.auto.words made.ensures)

pub returns : goal.returns
returns c =
    kernel_ready (part (goal.at.returns c).After-transform_length-n) c.load_kernel.new.words c.load_kernel.auto.words c.load_kernel.ensures
    c.corner_spectrum.new.words c.corner_spectrum.auto.words c.corner_spectrum.ensures.spectrum c.corner_spectrum.ensures.at_most
