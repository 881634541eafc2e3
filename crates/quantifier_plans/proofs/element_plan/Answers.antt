-- `quantifier_plans::element_plan` meets its contract: `requantify_plan`, given the index, the marks and the answers of
-- `cuts` and `gains` for the particle that is read, makes `element_plan` (`element_planned` of PlanLaws).
use Rattle.quantifier_plans.proofs.PlanLaws.{element_planned}
use Rattle.quantifier_plans.proofs.element_plan.Goals as goal

pub returns : goal.returns
returns c =
    let a = c.args in
    element_planned a.part.now a.owner a.h a.p a.new c.particles_from-from.ensures
    c.read_particle-x.ensures c.particle_index-index.ensures c.cuts.ensures c.gains.ensures c.marks-marks.ensures
    c.requantify_plan.ensures
