-- The line is loaded, then transformed. LoadedRows has the laws.
use mathlib.Core.Path.{◌≡◌, subst, ◌∙◌}
use Prim.Native.Nat.{ℕ}
use lib.ListN.{length}
use Rattle.algebra.specs.Places.{Run}
use Rattle.fermat.specs.Field.{modulus}
use Rattle.window.specs.Loaded.{Loaded}
use Rattle.window.specs.Shows.{line_at}
use Rattle.strip.proofs.LoadedRows.{line_most, line_filled, line_ready}
use Rattle.strip.proofs.channel.line_spectrum.Goals as goal
use Rattle.strip.proofs.channel.line_spectrum.Goals.{After-load_line}

-- the line is loaded
module _ (c : After-load_line) where
  size : length c.load_line.new.row ≡ 256
  size = c.load_line.auto.row ∙ c.requires.in_range.2

  -- as one row of 256 words
  held : let a = c.args in
      Loaded (modulus a.layer.field) (Run 0 256) (λ p. line_at a.layer a.shown a.map.now a.channel a.line 0 p) a.words.now c.load_line.new.row
  held =
      let a = c.args in
      subst (λ (n : ℕ). Loaded (modulus a.layer.field) (Run 0 n) (λ p. line_at a.layer a.shown a.map.now a.channel a.line 0 p) a.words.now c.load_line.new.row)
      c.requires.in_range.2 c.load_line.ensures

pub load_line-requires : goal.load_line-requires
load_line-requires c =
    let (range, field, length, fitting) = c.requires.in_range in
    record { in_range = (range, rw length fitting); map_len = c.requires.map_len }

pub row_spectrum-requires : goal.row_spectrum-requires
row_spectrum-requires c =
    let l = c.args.layer in
    let field = c.requires.in_range.1 in
    let known = (goal.at.row_spectrum-requires c).After-load_line in
    (size known, line_most l field (size known) (held known), line_filled l field (size known) (held known))

pub returns : goal.returns
returns c =
    let known = (goal.at.returns c).After-load_line in
    line_ready c.args.layer c.requires.in_range.1 (size known) (held known) (c.row_spectrum.auto.words ∙ size known)
    c.row_spectrum.ensures.row_spectrum c.row_spectrum.ensures.at_most
