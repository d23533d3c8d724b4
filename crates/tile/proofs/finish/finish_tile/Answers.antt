-- The first part is cleared, all map channels are added, the sum is taken back to residues, and these are stored. Finishing has the law.
use mathlib.Core.Path.{◌≡◌, sym, ap, ◌∙◌, subst}
use mathlib.Core.List.{List, ◌++◌}
use Prim.Native.Nat.{ℕ, ◌+◌, ◌*◌, ◌-◌, ◌≤◌, ◌<◌}
use native.Mathlib.Nat.{mul-le-mul}
use native.Mathlib.Omega.{arith}
use lib.ListN.{length, take, drop}
use lib.Seq.{length-take-le, get_or-take}
use Rattle.algebra.specs.Places.{Changed}
use Rattle.algebra.specs.PlacesLaws.{written_as, changed_written, changed_part, changed_again}
use Rattle.spectrum.specs.Value.{offset_of, Storable}
use Rattle.fermat.specs.Field.{transform_length}
use Rattle.layer.specs.declared.shape.Layer.{Layer}
use Rattle.layer.specs.Planned.{Planned}
use Rattle.layer.specs.Shape.{tile_of, tile_channel}
use Rattle.layer.specs.Direct.{direct_at}
use Rattle.layer.specs.TileSizeLaws.{length_high}
use Rattle.store.specs.Stored.{word_of, stored_at}
use Rattle.tile.specs.declared.origin.Origin.{Origin}
use Rattle.tile.specs.Channel.{area, KernelKept}
use Rattle.tile.specs.Start.{first_row, first_column}
use Rattle.tile.proofs.KernelReady.{kernel_left}
use Rattle.tile.proofs.Finishing.{At, finished}
use Rattle.tile.proofs.finish.finish_tile.Goals as goal
use Rattle.tile.proofs.finish.finish_tile.Goals.{After-add_channels, After-recover_tile}

-- the first part of scratch
module _ (l : Layer) {n : ℕ} (side : n ≡ transform_length l.field) where
  area_is : n * n ≡ area l
  area_is = ap (λ (i : ℕ). i * i) side

  area_high : Planned l → n * n ≤ 4096
  area_high plan =
      let most : n ≤ 64 = omega (arith, length_high l plan.shape) in
      mul-le-mul most most

pub transform_length-n-requires : goal.transform_length-n-requires
transform_length-n-requires c = c.requires.callable.0.plan.shape.field_high

pub overflow_mul-area : goal.overflow_mul-area
overflow_mul-area c = omega (arith, area_high c.args.layer c.transform_length-n.ensures c.requires.callable.0.plan)

pub origin_of-origin-requires : goal.origin_of-origin-requires
origin_of-origin-requires c = (c.requires.callable.0.plan, c.requires.callable.1)

pub clear-requires : goal.clear-requires
clear-requires c = (omega arith, omega (arith, area_is c.args.layer c.transform_length-n.ensures, c.requires.callable.0.scratch_low))

pub add_channels-requires : goal.add_channels-requires
add_channels-requires c =
    let none = c.clear.ensures in
    let is = area_is c.args.layer c.transform_length-n.ensures in
    let area : ℕ = c.transform_length-n.result * c.transform_length-n.result in
    record {
      lent_lengths = (
        record {
          plan = c.requires.callable.0.plan;
          map-length = c.requires.callable.0.map-length;
          kernel_length = c.requires.callable.0.kernel_length;
          scratch_low = omega (arith, none.same_length, c.requires.callable.0.scratch_low);
        },
        c.origin_of-origin.ensures.origin_in_range,
      );
      by_index = λ i h. none.here i (omega (arith, is, c.requires.callable.0.scratch_low)) (omega arith, omega (arith, is));
      inputs_value = λ kept. (
        (c.requires.inputs_value kept).0,
        kernel_left (rw (sym c.origin_of-origin.ensures.channel_value.0) at (c.requires.inputs_value kept).1) (omega (arith, is))
            (changed_written 0 (area - 0) none),
      );
    }

-- scratch with the sum over all map channels
module _ (c : After-add_channels) where
  abbrev part : ℕ
  part = c.transform_length-n.result * c.transform_length-n.result

  lent_le : part ≤ length c.add_channels.new.scratch
  lent_le =
      let is = area_is c.args.layer c.transform_length-n.ensures in
      omega (arith, is, c.add_channels.ensures.added.changed.same_length, c.clear.ensures.same_length, c.requires.callable.0.scratch_low)

  lent_length : length (take part c.add_channels.new.scratch) ≡ area c.args.layer
  lent_length = length-take-le part c.add_channels.new.scratch lent_le ∙ area_is c.args.layer c.transform_length-n.ensures

pub slice_bounds-sum-end : goal.slice_bounds-sum-end
slice_bounds-sum-end c = lent_le (goal.at.slice_bounds-sum-end c).After-add_channels

pub slice_bounds-sum-end-2 : goal.slice_bounds-sum-end-2
slice_bounds-sum-end-2 c =
    sym (length-take-le (c.transform_length-n.result * c.transform_length-n.result) c.add_channels.new.scratch
    (lent_le (goal.at.slice_bounds-sum-end-2 c).After-add_channels))

pub recover_tile-requires : goal.recover_tile-requires
recover_tile-requires c =
    let r = c.requires.callable.0.plan.shape in
    (r.field_low, r.field_high, lent_length (goal.at.recover_tile-requires c).After-add_channels)

at_tile : {l : Layer} {t : ℕ} {o : Origin} → (o.channel ≡ tile_channel l t) × (o.row ≡ first_row l t) × (o.column ≡ first_column l t) → At l t o
at_tile is = record { channel = is.0; row = is.1; column = is.2 }

-- the tile's words: what Finishing says of a place that the tile holds
held : (c : After-recover_tile) → let g = c.args in
    (p : ℕ) → p < length g.output.now → tile_of g.layer p ≡ g.tile
    → Storable (offset_of g.layer.field) (word_of g.layer g.tile p c.recover_tile.new.words)
    × (stored_at g.layer g.tile c.recover_tile.new.words p ≡ direct_at g.layer g.map.now g.kernel.now p)
held c =
    let g = c.args in
    let n : ℕ = c.transform_length-n.result in
    let ys : List ℕ = c.add_channels.new.scratch in
    finished g.layer g.map.now g.kernel.now (length g.output.now) (length g.scratch.now) g.tile c.requires.callable.0
    _ (at_tile c.origin_of-origin.ensures.channel_value) _ ys (take (n * n) ys) c.recover_tile.new.words c.add_channels.ensures.added
    (λ i h. get_or-take (n * n) ys i 0 (omega (arith, area_is g.layer c.transform_length-n.ensures))) c.recover_tile.ensures

pub store_tile-requires : goal.store_tile-requires
store_tile-requires c =
    record {
      planned = (c.requires.callable.0.plan, c.requires.callable.0.output_length, c.requires.callable.1);
      field_in_bounds = omega (arith, c.recover_tile.auto.words, lent_length (goal.at.store_tile-requires c).After-add_channels);
      by_index = λ p below e. (held (goal.at.store_tile-requires c).After-recover_tile p below e).0;
    }

pub returns : goal.returns
returns c =
    let k : ℕ = c.transform_length-n.result * c.transform_length-n.result in
    let g = c.args in
    let a = area g.layer in
    let ys : List ℕ = c.add_channels.new.scratch in
    let rs : List ℕ = c.recover_tile.new.words in
    let none = changed_written 0 (k - 0) c.clear.ensures in
    let is = area_is g.layer c.transform_length-n.ensures in
    let sum = (goal.at.returns c).After-add_channels in
    let back : Changed 0 0 (0 + k) ys (rs ++ drop k ys) =
    changed_part ys rs 0 k (omega (arith, lent_le sum)) (omega (arith, c.recover_tile.auto.words, lent_length sum, is)) in
    let small : k ≤ 3 * a = omega (arith, is) in
    record {
      written = written_as c.store_tile.ensures (λ p l h. h) (λ p h. h) (λ p below e. (held (goal.at.returns c).After-recover_tile p below e).1);
      changed = changed_again 0 (3 * a) (omega arith) (omega arith) (omega arith) (omega arith)
          (changed_again 0 (3 * a) (omega arith) (omega arith) (omega arith) (omega arith) none c.add_channels.ensures.added.changed) back;
      kernel_kept = subst (λ (m : ℕ). KernelKept g.layer g.kernel.now m (g.layer.inputs - 1) (rs ++ drop k ys))
          c.origin_of-origin.ensures.channel_value.0 (kernel_left c.add_channels.ensures.kernel_kept (omega (arith, is)) back);
    }
