-- `weights_before` counts the weights of layer after layer.
use mathlib.Core.Path.{◌≡◌}
use Prim.Native.Nat.{◌*◌, ◌≤◌}
use Rattle.steps.specs.Steps.{step_at, weights_before}
use Rattle.steps.proofs.kernels.weights_before.Given as goal

abbrev pub invariant-loop-i : goal.invariant-loop-i
invariant-loop-i l = (l.before ≡ weights_before (step_at l.steps) l.i) × (l.before ≤ l.i * 495616)
