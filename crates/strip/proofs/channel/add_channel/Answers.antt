use mathlib.Core.Path.{◌≡◌, refl, sym, subst, ◌∙◌}
use mathlib.Core.List.{List, ◌++◌}
use Prim.Native.Nat.{ℕ, ◌≤◌, ◌<◌}
use native.Mathlib.Nat.{zero-add}
use native.Mathlib.Omega.{arith}
use lib.ListN.{length, get_or, take, drop}
use lib.Seq.{length-take-le, get_or-take}
use Rattle.algebra.specs.Places.{Changed}
use Rattle.algebra.specs.PlacesLaws.{changed_part, get_d_put_mid}
use Rattle.spectrum.specs.Product.{Settled}
use Rattle.layer.specs.Strip.{strip_words}
use Rattle.strip.specs.Rows.{StripAdded}
use Rattle.strip.proofs.Adding.{added_nothing, added_channel}
use Rattle.strip.proofs.channel.add_channel.Goals as goal
use Rattle.strip.proofs.channel.add_channel.Goals.{After-settle, then-has_values, else-has_values}

pub loop-a-init : goal.loop-a-init
loop-a-init c =
    record { same_length = refl; bound = λ i h. omega (arith, c.requires.by_index i h); adds = λ first added. added }

pub overflow_add-line : goal.overflow_add-line
overflow_add-line c = omega (arith, c.requires.strip_lengths.1.row, c.requires.strip_lengths.0.plan.shape.side_high)

pub add_row-requires : goal.add_row-requires
add_row-requires c =
    let loop = c.loop-a in
    let lent = c.requires.strip_lengths.0 in record {
      strip_lengths = (
        record {
          plan = lent.plan;
          field = lent.field;
          map-length = lent.map-length;
          kernel_length = lent.kernel_length;
          scratch_low = omega (arith, loop.invariant.same_length, lent.scratch_low);
        },
        c.requires.strip_lengths.1,
        c.requires.strip_lengths.2,
        omega arith,
      );
      line_value = refl;
      by_index = loop.invariant.bound;
    }

pub loop-a-preserved : goal.loop-a-preserved
loop-a-preserved c =
    let before = c.loop-a.invariant in
    let g = c.args in
    elim c.if-has_values.branch [
      | then-has_values w ↦ rw w.scratch-is (record {
        same_length = w.add_row.auto.scratch ∙ before.same_length;
        bound = w.add_row.ensures.by_index_2;
        adds = λ first added. w.add_row.ensures.adds_row first (before.adds first added);
      })
      | else-has_values w ↦ rw w.scratch-is (record {
        same_length = before.same_length;
        bound = λ i h. omega (arith, before.bound i h);
        adds = λ first added.
            added_nothing g.layer g.map.now g.kernel.now g.origin (sym c.has_values.ensures ∙ w.if-has_values.false)
            (before.adds first added);
      })
    ]

-- all kernel rows are done: the first part of scratch is lent
lent_length : (xs ys : List ℕ) → length ys ≡ length xs → strip_words ≤ length xs → length (take 256 ys) ≡ 256
lent_length xs ys same low = length-take-le 256 ys (omega arith)

pub slice_bounds-settle-end : goal.slice_bounds-settle-end
slice_bounds-settle-end c = omega (arith, c.loop-a.invariant.same_length, c.requires.strip_lengths.0.scratch_low)

pub slice_bounds-settle-end-2 : goal.slice_bounds-settle-end-2
slice_bounds-settle-end-2 c =
    sym (lent_length c.args.scratch.now c.loop-a.scratch c.loop-a.invariant.same_length c.requires.strip_lengths.0.scratch_low)

-- and comes back
module _ (c : After-settle) where
  abbrev ys : List ℕ
  ys = c.loop-a.scratch

  abbrev rs : List ℕ
  rs = c.settle.new.words

  room : 256 ≤ length ys
  room = omega (arith, c.loop-a.invariant.same_length, c.requires.strip_lengths.0.scratch_low)

  lent : length (take 256 ys) ≡ 256
  lent = lent_length c.args.scratch.now ys c.loop-a.invariant.same_length c.requires.strip_lengths.0.scratch_low

  size : length rs ≡ 256
  size = c.settle.auto.words ∙ lent

  back : Changed 0 0 256 ys (rs ++ drop 256 ys)
  back = changed_part ys rs 0 256 room size

  down : (i : ℕ) → i < 256 → Settled 4 (get_or ys i 0) (get_or (rs ++ drop 256 ys) i 0)
  down i h =
      let word : get_or (rs ++ drop 256 ys) i 0 ≡ get_or rs i 0 = rw (zero-add i) at (get_d_put_mid 0 ys rs 0 256 room size i h) in
      rw (word, ← (get_or-take 256 ys i 0 h)) (c.settle.ensures i (omega (arith, lent)))

pub shape_of-scratch : goal.shape_of-scratch
shape_of-scratch c =
    (back (goal.at.shape_of-scratch c).After-settle).same_length ∙ c.loop-a.invariant.same_length

pub returns : goal.returns
returns c first added =
    let loop = c.loop-a in
    let g = c.args in
    let settled = (goal.at.returns c).After-settle in
    let all : loop.a ≡ g.layer.side = omega (arith, loop.auto.a-end, c.loop-a-test.false) in
    added_channel g.layer g.map.now g.kernel.now g.origin
    (subst (λ (a : ℕ). StripAdded g.layer g.map.now g.kernel.now g.origin g.c a first loop.scratch) all (loop.invariant.adds first added))
    (down settled) (back settled)
