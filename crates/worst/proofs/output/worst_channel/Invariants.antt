-- `worst_channel` takes channel after channel: `most` is the greatest load of the channels before m, and `channel` the first of them with it.
use mathlib.Core.Path.{◌≡◌}
use Rattle.algebra.specs.Greatest.{greatest, first_greatest}
use Rattle.load.specs.Load.{load}
use Rattle.worst.proofs.output.worst_channel.Given as goal

abbrev pub invariant-loop-m : goal.invariant-loop-m
invariant-loop-m l =
    (l.most ≡ greatest l.m (load l.layer l.kernel)) × (l.channel ≡ first_greatest l.m (load l.layer l.kernel))
