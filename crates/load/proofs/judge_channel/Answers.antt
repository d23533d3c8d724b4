-- `judge_channel`: one sum of all sizes tells a blank channel, and the load is tested by it. It rests on the laws of blank channels.
use mathlib.Core.Path.{sym, ap, ◌∙◌}
use mathlib.Core.Bool.{not}
use Prim.Native.Nat.{ℕ}
use lib.Dec.{eqb}
use Rattle.load.proofs.BlankLaws.{blank_total}
use Rattle.load.proofs.judge_channel.Goals as goal

pub returns : goal.returns
returns c =
    let a = c.args in
    record { nonzero_value = ap (λ (n : ℕ). not (eqb n 0)) c.size_total-total.ensures.0 ∙ ap not (sym (blank_total a.layer a.kernel.now a.m)); fits_value = c.load_fits.ensures }
