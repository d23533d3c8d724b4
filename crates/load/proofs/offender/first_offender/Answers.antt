-- The check of the whole map decides: no value is beyond the peak, or the search finds the first.
use mathlib.Core.Path.{sym, ◌∙◌}
use Rattle.load.specs.OffenderLaws.{offender_none}
use Rattle.load.proofs.offender.first_offender.Goals as goal

pub returns-then-within_peak : goal.returns-then-within_peak
returns-then-within_peak c =
    c.none.ensures ∙ sym (offender_none c.args.layer c.args.map.now (sym c.within_peak.ensures ∙ c.if-within_peak.true))
