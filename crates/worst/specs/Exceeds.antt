-- 02, E13: what the theorem of range refusals speaks of: the checks of a run before 16, and a map with an output larger in size than the limit. The
-- theorem is in `RangeLaws` of proofs/.
use Rattle.std.specs.Prelude.{◌≡◌, true, List, ℕ, ◌<◌, ℤ, nat_abs, length}
use Rattle.base.specs.Rules.{first_broken, rules_before}
use Rattle.layer.specs.declared.shape.Layer.{Layer}
use Rattle.layer.specs.Shape.{output_count}
use Rattle.layer.specs.Direct.{direct_at}
use Rattle.load.specs.Load.{load_limit, within_peak}
use Rattle.checks.specs.Engine.{Engine}
use Rattle.checks.specs.Checks.{run_rules}

-- the answer of a run to the checks before 16, which are those of 1 to 15 with 23, 25 and 24
abbrev pub earlier_code : Engine → Layer → (map kernel : List ℤ) → (output scratch : ℕ) → ℕ
earlier_code engine l map kernel output scratch = first_broken (rules_before 16 (run_rules engine l map kernel output scratch))

-- some map of so many values within the peak has a cropped output larger in size than the limit
pub record Exceeds (l : Layer) (kernel : List ℤ) (room : ℕ) : Type 0 where
  pub map : List ℤ
  pub size : length map ≡ room
  pub bounded : within_peak l.peak map ≡ true
  pub place : ℕ
  pub kept : place < output_count l
  pub larger : load_limit l.field < nat_abs (direct_at l map kernel place)
