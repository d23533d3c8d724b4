-- `load_kernel` loads the K² weights of a plane. That they are the plane is shown in Corner.
use Prim.Native.Nat.{ℕ, ◌+◌, ◌*◌, ◌-◌, ◌≤◌}
use native.Mathlib.Omega.{arith}
use lib.ListN.{length, drop, length-drop}
use lib.Seq.{length-take-le}
use Rattle.layer.specs.CountLaws.{weights_high}
use Rattle.layer.specs.PlaceLaws.{plane_end, corner_room}
use Rattle.window.specs.LoadedLaws.{weights_lent}
use Rattle.window.proofs.Corner.{plane_held}
use Rattle.window.proofs.kernel.load_kernel.Goals as goal
use Rattle.window.proofs.kernel.load_kernel.Goals.{Start}

pub overflow_mul-count : goal.overflow_mul-count
overflow_mul-count c = omega (arith, weights_high _ c.requires.in_range.0)

-- the plane's weights are in the kernel
plane_in : (s : Start) → let a = s.args in let count = a.layer.side * a.layer.side in a.plane * count + count ≤ length a.kernel.now
plane_in s = omega (arith, plane_end _ s.requires.in_range.0 s.args.plane s.requires.kernel_len.1, s.requires.kernel_len.0)

pub load_weights-requires : goal.load_weights-requires
load_weights-requires c =
    let r = c.requires.in_range.0 in
    let count : ℕ = c.args.layer.side * c.args.layer.side in
    let from : ℕ = c.args.plane * count in
    let kernel = c.args.kernel.now in
    let within = plane_in (goal.at.load_weights-requires c).Start in
    let size = length-take-le (from + count - from) (drop from kernel) (omega (arith, length-drop from kernel, within)) in
    (r, omega (arith, size, corner_room _ r, c.requires.in_range.1))

pub returns : goal.returns
returns c =
    plane_held _ _ _ (weights_lent _ c.args.kernel.now _ _ _ (omega arith) (plane_in (goal.at.returns c).Start) c.load_weights.ensures)
