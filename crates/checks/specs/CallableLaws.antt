-- What the rules of a run give of the outputs: each direct sum is within the load limit. It rests on the laws of loads.
use Rattle.std.specs.Prelude.{List, ℕ, ◌+◌, ◌*◌, ◌<◌, ◌≤◌, ℤ, nat_abs}
use Rattle.std.proofs.Common.{le_trans, mul_assoc, arith}
use Rattle.layer.specs.declared.shape.Layer.{Layer}
use Rattle.layer.specs.Shape.{channel_of, row_of, column_of}
use Rattle.layer.specs.Direct.{direct_at}
use Rattle.layer.specs.TileLaws.{planned_tiled, channel_lt}
use Rattle.load.specs.Load.{load_limit}
use Rattle.load.proofs.LoadLaws.{peak_bounds, load_fits, direct_load}
use Rattle.checks.specs.Engine.{Engine}
use Rattle.checks.specs.Callable.{Callable}

pub direct_fits : (engine : Engine) (l : Layer) (map kernel : List ℤ) (output scratch : ℕ) → Callable engine l map kernel output scratch
    → (p : ℕ) → p < output → nat_abs (direct_at l map kernel p) ≤ load_limit l.field
unfolding direct_at
direct_fits engine l map kernel output scratch callable p h =
    le_trans
    (direct_load l map kernel callable.plan.shape.stride_low (peak_bounds l.peak map callable.values)
    (channel_of l p) (l.top + row_of l p) (l.left + column_of l p))
    (load_fits l kernel callable.loads (channel_of l p) (channel_lt l (planned_tiled l callable.plan) p place))
  where
    place : p < l.outputs * (l.rows * l.columns)
    place = omega (arith, h, callable.output_length, mul_assoc l.outputs l.rows l.columns)
