use mathlib.Core.Path.{◌≡◌, subst}
use Prim.Native.Nat.{ℕ, ◌+◌, ◌-◌}
use native.Mathlib.Omega.{arith}
use Rattle.algebra.specs.PlacesLaws.{changed_nothing}
use Rattle.tile.specs.Channel.{Added, KernelKept}
use Rattle.tile.proofs.Adding.{added_none}
use Rattle.tile.proofs.finish.add_channels.Goals as goal

pub loop-c-init : goal.loop-c-init
loop-c-init c =
    let g = c.args in record {
      added = added_none g.layer g.map.now g.kernel.now g.origin changed_nothing c.requires.by_index;
      kept_before = λ _ kept. (c.requires.inputs_value kept).1;
      kept_last = λ some. absurd (omega arith);
    }

pub add_channel-requires : goal.add_channel-requires
add_channel-requires c =
    let lent = c.requires.lent_lengths.0 in
    let sum = c.loop-c.invariant.added in record {
      lent_lengths = (
        record {
          plan = lent.plan;
          map-length = lent.map-length;
          kernel_length = lent.kernel_length;
          scratch_low = omega (arith, sum.changed.same_length, lent.scratch_low);
        },
        c.requires.lent_lengths.1,
        omega arith,
      );
      by_index = sum.bound;
      kernel_kept = λ kept. c.loop-c.invariant.kept_before (omega (arith, (c.requires.inputs_value kept).0)) kept;
    }

pub loop-c-preserved : goal.loop-c-preserved
loop-c-preserved c =
    let one = c.add_channel.ensures in
    let next : c.loop-c.c + 1 - 1 ≡ c.loop-c.c = omega arith in record {
      added = one.adds c.args.scratch.now c.loop-c.invariant.added;
      kept_before = λ none _. absurd (omega arith);
      kept_last = λ _. rw next one.kernel_kept_2;
    }

pub returns : goal.returns
returns c =
    let loop = c.loop-c in
    let g = c.args in
    let e : loop.c ≡ g.layer.inputs = omega (arith, loop.auto.c-end, c.loop-c-test.false) in record {
      added = subst (λ (count : ℕ). Added g.layer g.map.now g.kernel.now g.origin count g.scratch.now loop.scratch) e loop.invariant.added;
      kernel_kept = subst (λ (count : ℕ). KernelKept g.layer g.kernel.now g.origin.channel (count - 1) loop.scratch) e
          (loop.invariant.kept_last (omega (arith, c.requires.lent_lengths.0.plan.shape.inputs_low)));
    }
