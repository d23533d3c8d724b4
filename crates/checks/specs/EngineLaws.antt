-- Both engines are lawful, and answer alike in the field that both take. It rests on the laws of tiles and of strips.
use Rattle.std.specs.Prelude.{◌≡◌, Bool, List, [], ◌∷◌, ◌++◌, ℕ, ◌≤◌, leb, ℤ, length}
use Rattle.std.proofs.Common.{sym, ap₂, ◌∙◌, arith, le-leb}
use Rattle.base.specs.Rules.{rule, first_broken, inside}
use Rattle.base.specs.RulesLaws.{inside_from}
use Rattle.layer.specs.declared.shape.Layer.{Layer}
use Rattle.layer.specs.Shape.{scratch_words}
use Rattle.layer.specs.Strip.{strip_words}
use Rattle.layer.specs.TileLaws.{planned_tiled, tile_of_lt}
use Rattle.layer.specs.StripLaws.{strip_of_lt}
use Rattle.checks.specs.declared.method.Method.{Method}
use Rattle.checks.specs.declared.method.Method.TheVariants.{Tiles, Strips}
use Rattle.checks.specs.Engine.{tile_engine, strip_engine, engine_of, Lawful}
use Rattle.checks.specs.Rules.{kind_rule, channels_rule, map_rule, map_length_rule, kernel_length_rule, output_length_rule, peak_rule}
use Rattle.checks.specs.Checks.{kernel_rules, output_rules, value_rules, run_code}

pub tile_lawful : Lawful tile_engine
tile_lawful = record { known = omega arith; covers = λ l plan p below. tile_of_lt l (planned_tiled l plan) p (omega arith) }

pub strip_lawful : Lawful strip_engine
strip_lawful = record { known = omega arith; covers = λ l plan p below. strip_of_lt l plan p (omega arith) }

pub lawful : (method : Method) → Lawful (engine_of method)
lawful Tiles = tile_lawful
lawful Strips = strip_lawful

-- in field 4, lent the scratch of both, they answer a run with the same number, and so accept the same layers, maps and kernels
pub same_answer : (l : Layer) (map kernel : List ℤ) (output scratch : ℕ) → l.field ≡ 4 → scratch_words l ≤ scratch
    → run_code strip_engine l map kernel output scratch ≡ run_code tile_engine l map kernel output scratch
unfolding run_code
same_answer l map kernel output scratch field room = ap₂ answer taken enough
  where
    answer : (field_taken words-lent : Bool) → ℕ
    answer field_taken words-lent =
        first_broken
        ((kind_rule l ∷ rule 2 field_taken ∷ channels_rule l ∷ map_rule l ∷ []) ++ kernel_rules l ++ output_rules l
        ++ (map_length_rule l (length map) ∷ kernel_length_rule l kernel ∷ output_length_rule l output ∷ rule 13 words-lent ∷ peak_rule l ∷ [])
        ++ value_rules l map kernel)

    taken : inside 4 4 l.field ≡ inside 4 5 l.field
    taken = inside_from 4 4 l.field (omega arith) (omega arith) ∙ sym (inside_from 4 5 l.field (omega arith) (omega arith))

    words : scratch_words l ≡ 3072
    words = rw field

    enough : leb strip_words scratch ≡ leb (scratch_words l) scratch
    enough = le-leb strip_words scratch (omega (arith, words)) ∙ sym (le-leb (scratch_words l) scratch room)
