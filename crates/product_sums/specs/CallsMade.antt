-- What is said of calls that were made: they are a list of calls of one layer's job, one of them refused.
use Rattle.std.specs.Prelude.{◌≡◌, Bool, true, List, ◌<◌, ℤ, length}
use Rattle.layer.specs.declared.shape.Layer.{Layer}
use Rattle.checks.specs.Engine.{Engine}
use Rattle.engine.specs.Calls.{accepted_calls, JobCalls, output_of, Reaches}

-- the buffer held `first` and then `left`: a list of calls made it so, one of them refused. Where `reaches` is true, the budgets reach the total
pub record CallsMade (engine : Engine) (l : Layer) (map kernel first left : List ℤ) (reaches : Bool) : Type 0 where
  pub list : JobCalls engine l map kernel
  pub starts : list.first ≡ first
  pub ends : output_of list ≡ left
  pub one_refused : accepted_calls list.calls < length list.calls
  pub enough : reaches ≡ true → Reaches list
