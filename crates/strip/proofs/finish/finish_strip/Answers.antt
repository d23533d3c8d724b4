-- The first part is cleared, all map channels are added, the sum is taken back to residues, and these are stored. Finishing has the law.
use mathlib.Core.Path.{◌≡◌, sym, ◌∙◌}
use mathlib.Core.List.{List, ◌++◌}
use Prim.Native.Nat.{ℕ, ◌≤◌, ◌<◌}
use native.Mathlib.Omega.{arith}
use lib.ListN.{length, take, drop}
use lib.Seq.{length-take-le, get_or-take}
use Rattle.algebra.specs.Places.{Changed}
use Rattle.algebra.specs.PlacesLaws.{changed_part, changed_written, changed_again, written_as}
use Rattle.spectrum.specs.Value.{offset_of, Storable}
use Rattle.layer.specs.Direct.{direct_at}
use Rattle.layer.specs.Strip.{strip_of}
use Rattle.strip.specs.Stored.{strip_word, strip_stored_at}
use Rattle.strip.proofs.Finishing.{field_is, finished}
use Rattle.strip.proofs.finish.finish_strip.Goals as goal
use Rattle.strip.proofs.finish.finish_strip.Goals.{After-add_channels, After-recover_row}

pub strip_origin-origin-requires : goal.strip_origin-origin-requires
strip_origin-origin-requires c = (c.requires.callable.0.plan, c.requires.callable.1)

pub clear-requires : goal.clear-requires
clear-requires c = (omega arith, omega (arith, c.requires.callable.0.scratch_low))

pub add_channels-requires : goal.add_channels-requires
add_channels-requires c =
    let callable = c.requires.callable.0 in
    let none = c.clear.ensures in record {
      strip_lengths = (
        record {
          plan = callable.plan;
          field = field_is callable;
          map-length = callable.map-length;
          kernel_length = callable.kernel_length;
          scratch_low = omega (arith, none.same_length, callable.scratch_low);
        },
        c.strip_origin-origin.ensures.1,
      );
      by_index = λ i h. none.here i (omega (arith, callable.scratch_low)) (omega arith, omega arith);
    }

-- scratch with the sum over all map channels
module _ (c : After-add_channels) where
  abbrev ys : List ℕ
  ys = c.add_channels.new.scratch

  length_is : length ys ≡ length c.args.scratch.now
  length_is = c.add_channels.ensures.changed.same_length ∙ c.clear.ensures.same_length

  room : 256 ≤ length ys
  room = omega (arith, length_is, c.requires.callable.0.scratch_low)

  lent_length : length (take 256 ys) ≡ 256
  lent_length = length-take-le 256 ys room

pub slice_bounds-sum-end : goal.slice_bounds-sum-end
slice_bounds-sum-end c = room (goal.at.slice_bounds-sum-end c).After-add_channels

pub slice_bounds-sum-end-2 : goal.slice_bounds-sum-end-2
slice_bounds-sum-end-2 c = sym (lent_length (goal.at.slice_bounds-sum-end-2 c).After-add_channels)

pub recover_row-requires : goal.recover_row-requires
recover_row-requires c =
    let all = (goal.at.recover_row-requires c).After-add_channels in
    let length = lent_length all in (
      length,
      (λ i h.
          let below : i < 256 = omega (arith, length) in
          omega (arith, get_or-take 256 (ys all) i 0 below, c.add_channels.ensures.bound i below)),
    )

-- the strip's words
module _ (c : After-recover_row) where
  abbrev sums : List ℕ
  sums = c.add_channels.new.scratch

  sums_room : 256 ≤ length sums
  sums_room =
      let added = c.add_channels.ensures.changed.same_length in
      omega (arith, added, c.clear.ensures.same_length, c.requires.callable.0.scratch_low)

  sums_length : length (take 256 sums) ≡ 256
  sums_length = length-take-le 256 sums sums_room

  abbrev rs : List ℕ
  rs = c.recover_row.new.words

  words_length : length rs ≡ 256
  words_length = c.recover_row.auto.words ∙ sums_length

  -- what Finishing says of a place that the strip holds
  held : let g = c.args in
      (p : ℕ) → p < length g.output.now → strip_of g.layer p ≡ g.strip
      → Storable (offset_of g.layer.field) (strip_word g.layer g.strip p rs)
      × (strip_stored_at g.layer g.strip rs p ≡ direct_at g.layer g.map.now g.kernel.now p)
  held =
      let g = c.args in
      finished g.layer g.map.now g.kernel.now (length g.output.now) (length g.scratch.now) g.strip c.requires.callable.0
      _ c.strip_origin-origin.ensures.0 _ sums (take 256 sums) rs c.add_channels.ensures
      (λ i h. get_or-take 256 sums i 0 h) c.recover_row.ensures

pub store_strip-requires : goal.store_strip-requires
store_strip-requires c =
    let words = (goal.at.store_strip-requires c).After-recover_row in
    let callable = c.requires.callable in
    record {
      planned = (callable.0.plan, callable.0.output_length, callable.1, omega (arith, words_length words));
      by_index = λ p below e. (held words p below e).0;
    }

pub returns : goal.returns
returns c =
    let words = (goal.at.returns c).After-recover_row in
    let ys = c.add_channels.new.scratch in
    let rs = c.recover_row.new.words in
    let none = changed_written 0 256 c.clear.ensures in
    let back : Changed 0 0 256 ys (rs ++ drop 256 ys) = changed_part ys rs 0 256 (sums_room words) (words_length words) in
    record {
      written = written_as c.store_strip.ensures (λ p l h. h) (λ p h. h) (λ p below e. (held words p below e).1);
      changed = changed_again 0 768 (omega arith) (omega arith) (omega arith) (omega arith)
          (changed_again 0 768 (omega arith) (omega arith) (omega arith) (omega arith) none c.add_channels.ensures.changed) back;
    }
