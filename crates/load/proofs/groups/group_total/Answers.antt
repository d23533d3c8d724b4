use mathlib.Core.Path.{◌≡◌, sym, ap, ap₂, ◌∙◌}
use Prim.Native.Nat.{ℕ, ◌+◌, ◌*◌, ◌≤◌, ◌<◌}
use native.Mathlib.Nat.{mul-le-mul}
use native.Mathlib.Numerals.{add-one}
use native.Mathlib.Omega.{arith}
use lib.ListN.{length}
use Rattle.algebra.specs.SumLaws.{sum_none, sum_last}
use Rattle.algebra.specs.PlacesLaws.{part_ends}
use Rattle.layer.specs.Direct.{plane_of}
use Rattle.load.specs.Load.{group_total}
use Rattle.load.proofs.LoadLaws.{plane_below}
use Rattle.load.proofs.KernelPlanes.{plane_group, part_length}
use Rattle.load.proofs.groups.group_total.Invariants.{group_in, plane_total}
use Rattle.load.proofs.groups.group_total.Goals as goal
use Rattle.load.proofs.groups.group_total.Goals.{In-loop-c, Start}

area_most : (c : Start) → c.args.layer.side * c.args.layer.side ≤ 121
area_most c = omega (arith, mul-le-mul c.requires.0.side_most c.requires.0.side_most)

pub loop-c-init : goal.loop-c-init
loop-c-init c = (sym (sum_none _), omega arith)

-- in a turn: the plane of map channel c is one of at most 4,096, and its run ends within the kernel
module _ (c : In-loop-c) where
  abbrev area : ℕ
  area = c.args.layer.side * c.args.layer.side

  abbrev plane : ℕ
  plane = c.planes_to-planes.result.first + c.loop-c.c * c.planes_to-planes.result.step

  plane_is : plane ≡ plane_of c.args.layer c.args.m c.loop-c.c
  plane_is = c.planes_to-planes.ensures c.loop-c.c

  plane_in : plane < c.args.layer.outputs * c.args.layer.inputs
  plane_in = rw plane_is (plane_below c.args.layer c.args.m c.loop-c.c c.requires.1 (omega arith))

  plane_small : plane < 4096
  plane_small = omega (arith, plane_in, mul-le-mul c.requires.0.outputs_most c.requires.0.inputs_most)

  run_ends : plane * area + area ≤ length c.args.kernel.now
  run_ends = omega (arith, part_ends plane _ area plane_in, c.requires.0.weights)

pub overflow_mul-from-in-loop-c : goal.overflow_mul-from-in-loop-c
overflow_mul-from-in-loop-c c = omega (arith, run_ends (goal.at.overflow_mul-from-in-loop-c c).In-loop-c)

pub overflow_add-plane : goal.overflow_add-plane
overflow_add-plane c = omega (arith, run_ends (goal.at.overflow_add-plane c).In-loop-c)

pub offset_bounds-kernel-from : goal.offset_bounds-kernel-from
offset_bounds-kernel-from c = omega (arith, run_ends (goal.at.offset_bounds-kernel-from c).In-loop-c)

pub slice_bounds-plane-end : goal.slice_bounds-plane-end
slice_bounds-plane-end c = omega (arith, run_ends (goal.at.slice_bounds-plane-end c).In-loop-c)

pub plane_sum-total-requires : goal.plane_sum-total-requires
plane_sum-total-requires c =
    omega (arith, part_length c.args.kernel.now (plane (goal.at.plane_sum-total-requires c).In-loop-c * area (goal.at.plane_sum-total-requires c).In-loop-c) (area (goal.at.plane_sum-total-requires c).In-loop-c) (run_ends (goal.at.plane_sum-total-requires c).In-loop-c), area_most (goal.at.plane_sum-total-requires c).Start)

-- the sum over the run is that of the plane
pub loop-c-preserved : goal.loop-c-preserved
loop-c-preserved c =
    let turn = (goal.at.loop-c-preserved c).In-loop-c in
    let a = c.args in
    let summed : c.plane_sum-total.result ≡ plane_total a.layer a.kernel.now a.m a.group c.loop-c.c =
    c.plane_sum-total.ensures.0 ∙ plane_group a.layer.side a.kernel.now (plane turn) a.group (run_ends turn)
    ∙ ap (group_in a.layer a.kernel.now a.group) (plane_is turn)
    in
    (rw (add-one, sum_last) (ap₂ ◌+◌ c.loop-c.invariant.0 summed), omega arith)

pub returns : goal.returns
unfolding group_total
returns c =
    let done : c.loop-c.c ≡ c.args.layer.inputs = omega arith in
    record { value = rw (c.loop-c.invariant.0, done); upper_bound = omega arith }
