-- `quantifier_plans::new_plan` meets its contract: the two cases of `group` are the two clauses of `new_plan`
-- (`new_planned` of PlanLaws).
use Rattle.quantifier_plans.proofs.PlanLaws.{new_planned}
use Rattle.quantifier_plans.proofs.new_plan.Goals as goal

pub returns-then-group : goal.returns-then-group
returns-then-group c =
    let a = c.args in
    new_planned a.store.now a.part.now a.owner a.h a.p a.new c.if-group.true c.group_plan.ensures

pub returns : goal.returns
returns c =
    let a = c.args in
    new_planned a.store.now a.part.now a.owner a.h a.p a.new c.if-group.false c.element_plan.ensures
