-- Map after map: the first one, and that of one step more; a step's map is one that a layer which follows takes. It rests on the laws of levels.
use Rattle.std.specs.Prelude.{◌≡◌, true, List, [], ◌∷◌, map, ℕ, ◌+◌, ℤ, nat_abs, length}
use Rattle.std.proofs.Math.Path.{refl}
use Rattle.std.proofs.Common.{◌∙◌, le-leb}
use Rattle.std.proofs.Math.Numerals.{add-one}
use Rattle.std.proofs.lemmas.List.{length-map}
use Rattle.algebra.specs.PlacesLaws.{length-table}
use Rattle.layer.specs.Shape.{output_count}
use Rattle.load.specs.Load.{within_peak}
use Rattle.levels.specs.Level.{level}
use Rattle.levels.proofs.LevelLaws.{level-within}
use Rattle.levels.specs.Answer.{levels_of}
use Rattle.steps.specs.declared.step.Step.{Step}
use Rattle.steps.specs.Steps.{kernel_at}
use Rattle.steps.specs.Linked.{Follows}
use Rattle.steps.specs.Runnable.{Taken}
use Rattle.sequence.specs.Sequence.{sums_of, grown_by, map_after}

module _ (steps : ℕ → Step) (map kernels : List ℤ) where
  pub map_none : map_after steps map kernels 0 ≡ map
  unfolding map_after
  map_none = refl

  pub map_next : (k : ℕ) → map_after steps map kernels (k + 1) ≡ grown_by (steps k) (map_after steps map kernels k) (kernel_at steps kernels k)
  unfolding map_after
  map_next k = rw add-one

-- ---- what a step makes

pub length_grown : (s : Step) (map kernel : List ℤ) → length (grown_by s map kernel) ≡ output_count s.layer
length_grown s map kernel = length-map (sums_of s.layer map kernel) _ ∙ length-table (output_count s.layer) _

levels_within : (shift bound : ℕ) (outputs : List ℤ) → within_peak bound (levels_of shift bound outputs) ≡ true
unfolding within_peak
levels_within shift bound [] = refl
levels_within shift bound (z ∷ outputs) =
    rw (le-leb (nat_abs (level shift bound z)) bound (level-within shift bound z)) (levels_within shift bound outputs)

pub grown_taken : (s next : Step) (map kernel : List ℤ) → Follows s next → Taken next.layer (grown_by s map kernel)
grown_taken s next map kernel f = record {
  map-length = rw (← f.channels, ← f.rows, ← f.columns) (length_grown s map kernel);
  values = rw (← f.peak) (levels_within s.shift s.bound (sums_of s.layer map kernel));
}
