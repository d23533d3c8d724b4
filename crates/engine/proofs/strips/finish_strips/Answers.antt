use mathlib.Core.Path.{◌≡◌, sym}
use native.Mathlib.Omega.{arith}
use Rattle.algebra.specs.PlacesLaws.{changed_nothing, changed_again}
use Rattle.checks.specs.Engine.{strip_engine}
use Rattle.engine.proofs.PartsWritten.{no_part, one_more_part, written_finished}
use Rattle.engine.proofs.strips.finish_strips.Goals as goal

pub loop-strip-init : goal.loop-strip-init
loop-strip-init c = record { written = no_part strip_engine _ _ _ _; changed = changed_nothing }

pub finish_strip-requires : goal.finish_strip-requires
finish_strip-requires c =
    let before = c.loop-strip.invariant in record {
      callable = (
        rw (sym before.written.same_length, sym before.changed.same_length) at c.requires.callable,
        omega (arith, c.loop-strip-test.true, c.requires.from_le_to),
      );
    }

pub loop-strip-preserved : goal.loop-strip-preserved
loop-strip-preserved c =
    let before = c.loop-strip.invariant in
    let one = c.finish_strip.ensures in record {
      written = one_more_part strip_engine _ _ _ _ c.loop-strip.strip c.loop-strip.auto.strip before.written one.written;
      changed = changed_again 0 768 (omega arith) (omega arith) (omega arith) (omega arith) before.changed one.changed;
    }

pub returns : goal.returns
returns c =
    let loop = c.loop-strip in
    let last : loop.strip ≡ c.args.to = omega (arith, loop.auto.strip-end, c.loop-strip-test.false, c.requires.from_le_to) in
    record { output_after = written_finished strip_engine _ _ _ _ c.args.to (rw last at loop.invariant.written); changed = loop.invariant.changed }
