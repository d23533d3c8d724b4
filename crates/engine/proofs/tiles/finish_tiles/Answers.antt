use mathlib.Core.Path.{◌≡◌, sym, ap₂, subst}
use Prim.Native.Nat.{ℕ, ◌+◌, ◌-◌}
use native.Mathlib.Omega.{arith}
use Rattle.algebra.specs.PlacesLaws.{changed_nothing, changed_again}
use Rattle.layer.specs.Direct.{plane_of}
use Rattle.layer.specs.Shape.{scratch_words}
use Rattle.checks.specs.Engine.{tile_engine}
use Rattle.tile.specs.Channel.{area, KernelReady}
use Rattle.engine.proofs.PartsWritten.{no_part, one_more_part, written_finished}
use Rattle.engine.proofs.tiles.finish_tiles.Goals as goal

pub loop-tile-init : goal.loop-tile-init
loop-tile-init c =
    record { written = no_part tile_engine _ _ _ _; changed = changed_nothing; kept = λ some. absurd (omega arith) }

pub keeps_kernel-kept-requires : goal.keeps_kernel-kept-requires
keeps_kernel-kept-requires c =
    (c.requires.callable.plan, omega (arith, c.loop-tile-test.true, c.requires.from_le_to))

pub finish_tile-requires : goal.finish_tile-requires
finish_tile-requires c =
    let loop = c.loop-tile in
    let before = loop.invariant in
    let l = c.args.layer in
    record {
      callable = (
        rw (sym before.written.same_length, sym before.changed.same_length) at c.requires.callable,
        omega (arith, c.loop-tile-test.true, c.requires.from_le_to),
      );
      inputs_value = λ kept.
          let (inputs, some, same) = c.keeps_kernel-kept.ensures kept in
          let only : l.inputs - 1 ≡ 0 = omega arith in (
            inputs,
            subst (λ (plane : ℕ). KernelReady l c.args.kernel.now plane (area l) loop.scratch) (ap₂ (plane_of l) (sym same) only) (before.kept some),
          );
    }

pub loop-tile-preserved : goal.loop-tile-preserved
loop-tile-preserved c =
    let loop = c.loop-tile in
    let before = loop.invariant in
    let one = c.finish_tile.ensures in
    let words = scratch_words c.args.layer in
    let next : loop.tile + 1 - 1 ≡ loop.tile = omega arith in record {
      written = one_more_part tile_engine _ _ _ _ loop.tile loop.auto.tile before.written one.written;
      changed = changed_again 0 words (omega arith) (omega arith) (omega arith) (omega arith) before.changed one.changed;
      kept = λ _. rw next one.kernel_kept;
    }

pub returns : goal.returns
returns c =
    let loop = c.loop-tile in
    let last : loop.tile ≡ c.args.to = omega (arith, loop.auto.tile-end, c.loop-tile-test.false, c.requires.from_le_to) in
    record { output_after = written_finished tile_engine _ _ _ _ c.args.to (rw last at loop.invariant.written); changed = loop.invariant.changed }
