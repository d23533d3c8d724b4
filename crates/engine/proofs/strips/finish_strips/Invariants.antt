-- Strip after strip is written; at the end all strips from `from` up to `to` are.
use Rattle.algebra.specs.Places.{Changed}
use Rattle.layer.specs.Strip.{strip_words}
use Rattle.checks.specs.Engine.{strip_engine}
use Rattle.engine.proofs.PartsWritten.{PartsWritten}
use Rattle.engine.proofs.strips.finish_strips.Given as goal

abbrev pub invariant-loop-strip : goal.invariant-loop-strip
invariant-loop-strip l = record {
  written : PartsWritten strip_engine l.layer l.map l.kernel l.from l.strip l.initial.output l.output;
  changed : Changed 0 0 strip_words l.initial.scratch l.scratch;
}
