-- What a check finds: the number 0 with zeros where it passes, else the number of the refusal with the place that stands with it.
use Rattle.std.specs.Prelude.{Result, Ok, Err}
use Rattle.base.specs.Refusals.{number_of}
use Rattle.load.specs.Offender.{no_offender}
use Rattle.checks.specs.declared.calls.Checked.{Checked}
use Rattle.checks.specs.declared.calls.Refused.{Refused}

abbrev pub found : Result (Unit {0}) Refused → Checked
found (Ok passed) = record { code = 0; offender = no_offender }
found (Err refused) = record { code = number_of refused.refusal; offender = refused.offender }
