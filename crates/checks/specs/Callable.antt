-- What the rules of a run give of a layer and of what a call lends. The contracts of what finishes parts ask for it.
use Rattle.std.specs.Prelude.{◌≡◌, true, List, ℕ, ◌≤◌, ℤ, length}
use Rattle.layer.specs.declared.shape.Layer.{Layer}
use Rattle.layer.specs.Shape.{map_count, kernel_count, output_count}
use Rattle.layer.specs.Planned.{Planned}
use Rattle.load.specs.Load.{loads_fit, within_peak}
use Rattle.load.specs.Blank.{none_blank}
use Rattle.checks.specs.Engine.{Engine}

pub record Callable (engine : Engine) (l : Layer) (map kernel : List ℤ) (output scratch : ℕ) : Type 0 where
  pub plan : Planned l
  pub field_taken : l.field ≤ engine.last_field
  pub map-length : length map ≡ map_count l
  pub kernel_length : length kernel ≡ kernel_count l
  pub output_length : output ≡ output_count l
  pub scratch_low : engine.words l ≤ scratch
  pub peak_low : 1 ≤ l.peak
  pub peak_high : l.peak ≤ 32767
  pub values : within_peak l.peak map ≡ true
  pub none_blank_lem : none_blank l kernel ≡ true
  pub loads : loads_fit l kernel ≡ true
