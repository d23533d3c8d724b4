-- Where a strip reads. Its windows begin at the grid row of its output row, and at the grid column of its first place.
use Rattle.std.specs.Prelude.{◌≡◌, ℕ, ◌+◌, ◌*◌, ◌≤◌, ◌<◌}
use Rattle.layer.specs.declared.shape.Layer.{Layer}
use Rattle.layer.specs.Shape.{grid_step}
use Rattle.layer.specs.Strip.{strip_length, strip_channel, strip_row, strip_column}
use Rattle.window.specs.Shows.{Shows}
use Rattle.strip.specs.declared.origin.StripOrigin.{StripOrigin}

-- the grid row and column that the windows of strip t begin at
abbrev pub strip_first_row : Layer → ℕ → ℕ
strip_first_row l t = (l.top + strip_row l t) * grid_step l

abbrev pub strip_first_column : Layer → ℕ → ℕ
strip_first_column l t = l.left * grid_step l + strip_column l t * strip_length l

-- s is where strip t reads
pub record StripOriginAt (l : Layer) (t : ℕ) (s : StripOrigin) : Type 0 where
  pub channel : s.channel ≡ strip_channel l t
  pub row : s.row ≡ strip_first_row l t
  pub column : s.column ≡ strip_first_column l t

-- the layer has the output channel, the row is not large, and what the rows of 256 places show is that of their column
pub record StripOriginInRange (l : Layer) (s : StripOrigin) : Type 0 where
  pub channel : s.channel < l.outputs
  pub row : s.row ≤ 10000
  pub shows : Shows l 256 s.column s.shown
