-- `judge_channels` takes channel after channel: `nonzero` and `fits` say of the channels before m that none is blank and that every load is within
-- the limit. It rests on the laws of `every`.
use mathlib.Core.Path.{◌≡◌}
use mathlib.Core.Bool.{Bool, not}
use mathlib.Core.List.{List}
use Prim.Native.Nat.{ℕ}
use lib.Dec.{leb}
use lib.IntN.{ℤ}
use Rattle.algebra.specs.Every.{every}
use Rattle.layer.specs.declared.shape.Layer.{Layer}
use Rattle.load.specs.Load.{load, load_limit}
use Rattle.load.specs.Blank.{blank}
use Rattle.load.proofs.judge_channels.Given as goal

-- a weight other than 0 reaches channel m
abbrev pub reached : Layer → List ℤ → (m : ℕ) → Bool
reached layer kernel m = not (blank layer kernel m)

-- the load of channel m is within the limit
abbrev pub within : Layer → List ℤ → (m : ℕ) → Bool
within layer kernel m = leb (load layer kernel m) (load_limit layer.field)

abbrev pub invariant-loop-m : goal.invariant-loop-m
invariant-loop-m l =
    (l.nonzero ≡ every l.m (reached l.layer l.kernel)) × (l.fits ≡ every l.m (within l.layer l.kernel))
