-- The counts of map values, weights and outputs of a small layer fit the buffers. It rests on the definition of `small`.
use mathlib.Core.Path.{◌≡◌}
use mathlib.Core.Bool.{true, ◌&&◌}
use Prim.Native.Nat.{◌≤◌}
use borrow.Author.Tests.{leb-true}
use lib.Dec.{leb, eqb}
use Rattle.algebra.specs.EveryLaws.{both_true}
use Rattle.layer.specs.declared.shape.Layer.{Layer}
use Rattle.layer.specs.Shape.{map_count, kernel_count, output_count}
use Rattle.bench_text.specs.Printed.{small}

module _ (l : Layer) (e : small l ≡ true) where
  -- the tests but that of the outputs, and but that of the weights too
  but_outputs : eqb l.field 4 && leb (map_count l) 1024 && leb (kernel_count l) 512 ≡ true
  but_outputs = (both_true (eqb l.field 4 && leb (map_count l) 1024 && leb (kernel_count l) 512) (leb (output_count l) 1024) e).0

  but_weights : eqb l.field 4 && leb (map_count l) 1024 ≡ true
  but_weights = (both_true (eqb l.field 4 && leb (map_count l) 1024) (leb (kernel_count l) 512) but_outputs).0

  pub small-map : map_count l ≤ 1024
  small-map = leb-true (map_count l) 1024 (both_true (eqb l.field 4) (leb (map_count l) 1024) but_weights).1

  pub small_kernel : kernel_count l ≤ 512
  small_kernel = leb-true (kernel_count l) 512 (both_true (eqb l.field 4 && leb (map_count l) 1024) (leb (kernel_count l) 512) but_outputs).1

  pub small_output : output_count l ≤ 1024
  small_output =
      leb-true (output_count l) 1024
      (both_true (eqb l.field 4 && leb (map_count l) 1024 && leb (kernel_count l) 512) (leb (output_count l) 1024) e).1
