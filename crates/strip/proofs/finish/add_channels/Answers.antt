use native.Mathlib.Omega.{arith}
use Rattle.algebra.specs.PlacesLaws.{changed_nothing}
use Rattle.strip.proofs.Adding.{added_none}
use Rattle.strip.proofs.finish.add_channels.Goals as goal

pub loop-c-init : goal.loop-c-init
loop-c-init c =
    let g = c.args in
    added_none g.layer g.map.now g.kernel.now g.origin changed_nothing c.requires.by_index

pub add_channel-requires : goal.add_channel-requires
add_channel-requires c =
    let lent = c.requires.strip_lengths.0 in
    let sum = c.loop-c.invariant in record {
      strip_lengths = (
        record {
          plan = lent.plan;
          field = lent.field;
          map-length = lent.map-length;
          kernel_length = lent.kernel_length;
          scratch_low = omega (arith, sum.changed.same_length, lent.scratch_low);
        },
        c.requires.strip_lengths.1,
        omega arith,
      );
      by_index = λ i h. omega (arith, sum.bound i h);
    }

pub loop-c-preserved : goal.loop-c-preserved
loop-c-preserved c = c.add_channel.ensures c.args.scratch.now c.loop-c.invariant
