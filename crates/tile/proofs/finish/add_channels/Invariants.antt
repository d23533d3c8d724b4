-- Map channel after map channel is added; at the end all are, and the kernel's transform for the last one is left.
use mathlib.Core.Path.{◌≡◌}
use mathlib.Core.Bool.{true}
use Prim.Native.Nat.{◌-◌, ◌<◌}
use Rattle.tile.specs.Channel.{Added, KernelKept}
use Rattle.tile.proofs.finish.add_channels.Given as goal

abbrev pub invariant-loop-c : goal.invariant-loop-c
invariant-loop-c l = record {
  added : Added l.layer l.map l.kernel l.origin l.c l.initial.scratch l.scratch;
  kept_before : l.c ≡ 0 → l.kept ≡ true → KernelKept l.layer l.kernel l.origin.channel l.c l.scratch;
  kept_last : 0 < l.c → KernelKept l.layer l.kernel l.origin.channel (l.c - 1) l.scratch;
}
