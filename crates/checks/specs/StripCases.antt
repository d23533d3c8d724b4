-- 02, E5: figures of layers by strips, worked out by hand: how many there are, the words of scratch, the strips of a few places, and the field 5
-- refused with 2. They are proved by computation, on the definitions.
use Rattle.std.specs.Prelude.{Bool, ◌&&◌, ℕ, T, eqb}
use Rattle.base.specs.Number.{ceiling_div}
use Rattle.base.specs.Rules.{inside}
use Rattle.layer.specs.declared.shape.Layer.{Layer}
use Rattle.layer.specs.Shape.{conv_size, tconv_size}
use Rattle.layer.specs.Planned.{crop_fits}
use Rattle.layer.specs.Strip.{strip_total, strip_of}
use Rattle.checks.specs.Engine.{strip_engine}
use Rattle.checks.specs.Checks.{plan_code, plan_of}

-- two channels to two, maps of 8 by 512, K 3, no padding, not cropped, nothing added
abbrev wide : (kind field stride rows columns : ℕ) → Layer
wide kind field stride rows columns = record {
  kind = kind;
  field = field;
  inputs = 2;
  outputs = 2;
  height = 8;
  width = 512;
  side = 3;
  stride = stride;
  padding = 0;
  peak = 1;
  top = 0;
  left = 0;
  rows = rows;
  columns = columns;
  below = 0;
  beside = 0;
}

abbrev plans : Layer → (code strips scratch : ℕ) → Bool
plans l code strips scratch =
    let plan = plan_of strip_engine l in
    eqb plan.code code && eqb plan.parts strips && eqb plan.scratch scratch

-- a strip holds 254 places of the grid. CONV with S 1: the output is 6 by 510, three strips in a row; with S 2 it is 3 by 255, which span 509
-- places, three strips again. TCONV with S 4: 31 by 2,047, nine strips in a row
strips_counted : T (plans (wide 0 4 1 6 510) 0 36 768 && plans (wide 0 4 2 3 255) 0 18 768 && plans (wide 1 4 4 31 2047) 0 558 768
    && plans (wide 0 5 1 6 510) 2 0 0)
unfolding plan_of plan_code inside crop_fits conv_size tconv_size ceiling_div strip_total
strips_counted = tt

-- the last place of the first row lies in strip 2, the first of the second row in strip 3; with S 2 the column 127 is the first of strip 1
strips_placed : T (eqb (strip_of (wide 0 4 1 6 510) 509) 2 && eqb (strip_of (wide 0 4 1 6 510) 510) 3
    && eqb (strip_of (wide 0 4 2 3 255) 126) 0 && eqb (strip_of (wide 0 4 2 3 255) 127) 1)
unfolding strip_of conv_size tconv_size ceiling_div
strips_placed = tt
