-- `quantifier_plans::group_plan` meets its contract: `requantify_plan`, given the marks of the group's span, the answer
-- of `gains` and the group's particles as filling, makes `group_plan` (`group_planned` of PlanLaws).
use Rattle.quantifier_plans.proofs.PlanLaws.{group_planned}
use Rattle.quantifier_plans.proofs.group_plan.Goals as goal

pub returns : goal.returns
returns c =
    let a = c.args in
    group_planned a.store.now a.part.now a.owner a.h a.p a.new c.particles_from.ensures
    c.read_particle-x.ensures c.gains.ensures c.definitions_of.ensures c.particles_before-before.ensures.0
    c.group_span.ensures.0 c.marks-marks.ensures c.kind_in.ensures c.requantify_plan.ensures
