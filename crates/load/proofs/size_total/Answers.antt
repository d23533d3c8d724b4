-- `size_total`: the group by 1 has all weights.
use mathlib.Core.Path.{◌∙◌}
use Rattle.load.proofs.GroupLaws.{whole_group}
use Rattle.load.proofs.size_total.Goals as goal

pub returns : goal.returns
returns c = (c.group_total.ensures.value ∙ whole_group _ _ _, c.group_total.ensures.upper_bound)
