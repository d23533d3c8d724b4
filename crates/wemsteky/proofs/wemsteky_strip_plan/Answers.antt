-- `wemsteky_strip_plan` hands on the planner's answer for strips.
use mathlib.Core.Path.{ap, ◌∙◌}
use Rattle.layer.specs.declared.shape.Plan.{Plan}
use Rattle.checks.specs.Engine.{strip_engine}
use Rattle.checks.specs.Checks.{plan_of}
use Rattle.wemsteky.specs.Figures.{plan_figures}
use Rattle.wemsteky.proofs.wemsteky_strip_plan.Goals as goal

pub returns : goal.returns
returns c =
    let same = c.plan_by.ensures ∙ ap (plan_of strip_engine) c.layer_of.ensures in
    record { value = c.show_plan.ensures.value ∙ ap (λ (p : Plan). p.code) same; figures_after = c.show_plan.ensures.figures_after ∙ ap plan_figures same }
