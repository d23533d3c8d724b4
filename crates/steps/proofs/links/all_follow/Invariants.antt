-- `all_follow` tests pair after pair: `fit` says it of those before k.
use mathlib.Core.Path.{◌≡◌}
use mathlib.Core.Bool.{Bool}
use mathlib.Core.List.{List}
use Prim.Native.Nat.{ℕ, ◌+◌}
use Rattle.algebra.specs.Every.{every}
use Rattle.steps.specs.Steps.{step_at}
use Rattle.steps.specs.Answer.{follows}
use Rattle.steps.proofs.links.all_follow.Given as goal

-- the next layer takes what step k makes
abbrev pub pair : List ℕ → (k : ℕ) → Bool
pair steps k = follows (step_at steps k) (step_at steps (k + 1))

abbrev pub invariant-loop-k : goal.invariant-loop-k
invariant-loop-k l = l.fit ≡ every l.k (pair l.steps)
