-- `member_plans::inserting_plan` meets its contract: the plan is that of `insert_element_plan`, with `marks_at` and
-- `skips` put in for what `marks` and the quantifier that was read gave.
use mathlib.Core.Path.{ap, ap₂, ◌∙◌}
use mathlib.Core.Bool.{Bool, ◌&&◌, not}
use Rattle.rules.specs.Model.{skips}
use Rattle.rules.specs.Bytes.{Bytes}
use Rattle.plans.specs.ModelCalls.{insert_element_plan}
use Rattle.member_plans.proofs.inserting_plan.Goals as goal

pub returns : goal.returns
returns c =
    let a = c.args in
    c.insert_element_plan.ensures ∙ ap₂ (λ (m : Bytes) (b : Bool). insert_element_plan a.owner m a.definition (b && a.spine)) c.marks.ensures
    (ap not (c.skips.ensures ∙ ap skips c.from.ensures))
