-- `within_peak` takes the least and the greatest of 0 and the values, whose sizes decide. It rests on the laws of such a pass.
use Rattle.load.proofs.Peaks.{Passed}
use Rattle.load.proofs.values.within_peak.Given as goal

abbrev pub invariant-loop-v : goal.invariant-loop-v
invariant-loop-v l = Passed l.peak l.map l.low l.high l.v-index
