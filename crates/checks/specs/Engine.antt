-- What sets one engine apart from another, E5's strips from 01's tiles: how it divides the outputs of a layer into parts, which a job finishes
-- one after the other, how much scratch it works in and which fields it takes. The checks and what is said of calls depend on nothing else.
use Rattle.std.specs.Prelude.{ℕ, ◌≤◌, ◌<◌}
use Rattle.layer.specs.declared.shape.Layer.{Layer}
use Rattle.layer.specs.Shape.{output_count, scratch_words, tile_total, tile_of}
use Rattle.layer.specs.Strip.{strip_words, strip_total, strip_of}
use Rattle.layer.specs.Planned.{Planned}
use Rattle.checks.specs.declared.method.Method.{Method}
use Rattle.checks.specs.declared.method.Method.TheVariants.{Tiles, Strips}

pub record Engine : Type 0 where
  -- how many parts a layer has, and the part that holds a flat output place
  pub total : Layer → ℕ
  pub part_of : Layer → (place : ℕ) → ℕ
  -- the words of scratch
  pub words : Layer → ℕ
  -- it takes the fields from 4 up to this one
  pub last_field : ℕ

-- 01's engine, of tiles
abbrev pub tile_engine : Engine
tile_engine = record { total = tile_total; part_of = tile_of; words = scratch_words; last_field = 5 }

-- E5's engine, of strips
abbrev pub strip_engine : Engine
strip_engine = record { total = strip_total; part_of = strip_of; words = λ _. strip_words; last_field = 4 }

-- the engine that a method is of
abbrev pub engine_of : Method → Engine
engine_of Tiles = tile_engine
engine_of Strips = strip_engine

-- what is asked of an engine: it takes no field but 4 and 5, and every output place lies in one of its parts
pub record Lawful (engine : Engine) : Type 0 where
  pub known : engine.last_field ≤ 5
  pub covers : (l : Layer) → Planned l → (p : ℕ) → p < output_count l → engine.part_of l p < engine.total l
