-- `put_body`: the parts of the buffers that are lent are as long as the layer's counts, which fit since the layer is small.
use mathlib.Core.Path.{◌≡◌, sym, ◌∙◌}
use mathlib.Core.Bool.{true}
use Prim.Native.Nat.{◌≤◌}
use native.Mathlib.Omega.{arith}
use borrow.Author.Rules.{rules}
use lib.Seq.{length-take-le}
use Rattle.bench_text.specs.Printed.{small}
use Rattle.bench_text.proofs.Counts.{small-map, small_kernel}
use Rattle.bench_text.proofs.answer.put_body.Goals as goal
use Rattle.bench_text.proofs.answer.put_body.Goals.{After-kernel_count-weights}

-- the counts of the layer are made, and fit the buffers
module _ (c : After-kernel_count-weights) where
  is_small : small c.args.layer ≡ true
  is_small = sym c.is_small.ensures ∙ c.if-not-is_small.false

  map-fits : c.map_count-values.result ≤ 1024
  map-fits = omega (arith, c.map_count-values.ensures, small-map c.args.layer is_small)

  kernel_fits : c.kernel_count-weights.result ≤ 512
  kernel_fits = omega (arith, c.kernel_count-weights.ensures, small_kernel c.args.layer is_small)

pub returns-then-not-is_small : goal.returns-then-not-is_small
returns-then-not-is_small c =
    rw (sym c.is_small.ensures ∙ c.if-not-is_small.true) c.put_unreadable.ensures

pub slice_bounds-map-end : goal.slice_bounds-map-end
slice_bounds-map-end c = map-fits (goal.at.slice_bounds-map-end c).After-kernel_count-weights

pub slice_bounds-put_read-end : goal.slice_bounds-put_read-end
slice_bounds-put_read-end c = sym (length-take-le _ _ (map-fits (goal.at.slice_bounds-put_read-end c).After-kernel_count-weights))

pub slice_bounds-kernel-end : goal.slice_bounds-kernel-end
slice_bounds-kernel-end c = kernel_fits (goal.at.slice_bounds-kernel-end c).After-kernel_count-weights

pub slice_bounds-put_read-end-2 : goal.slice_bounds-put_read-end-2
slice_bounds-put_read-end-2 c = sym (length-take-le _ _ (kernel_fits (goal.at.slice_bounds-put_read-end-2 c).After-kernel_count-weights))

pub put_read-requires : goal.put_read-requires
put_read-requires c =
    record {
      planned = (c.requires.0, is_small (goal.at.put_read-requires c).After-kernel_count-weights, search rules);
      map_len = (
        length-take-le _ _ (map-fits (goal.at.put_read-requires c).After-kernel_count-weights) ∙ c.map_count-values.ensures,
        length-take-le _ _ (kernel_fits (goal.at.put_read-requires c).After-kernel_count-weights) ∙ c.kernel_count-weights.ensures,
      );
    }
