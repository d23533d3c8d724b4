-- 01, "The bench program", and 02, E7: a layer as sixteen numbers in a row, kind field C M H W K S P peak top left h w, then the rows and the
-- columns that are added.
use Rattle.std.specs.Prelude.{List, ℕ, get_or}
use Rattle.layer.specs.declared.shape.Layer.{Layer}

abbrev pub layer_of : List ℕ → Layer
layer_of numbers = record {
  kind = get_or numbers 0 0;
  field = get_or numbers 1 0;
  inputs = get_or numbers 2 0;
  outputs = get_or numbers 3 0;
  height = get_or numbers 4 0;
  width = get_or numbers 5 0;
  side = get_or numbers 6 0;
  stride = get_or numbers 7 0;
  padding = get_or numbers 8 0;
  peak = get_or numbers 9 0;
  top = get_or numbers 10 0;
  left = get_or numbers 11 0;
  rows = get_or numbers 12 0;
  columns = get_or numbers 13 0;
  below = get_or numbers 14 0;
  beside = get_or numbers 15 0;
}
