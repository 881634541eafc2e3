-- `quantifier_plans::group_span` meets its contract: the particle itself and the deeper ones right after it, which
-- `span` counts, are `group_span` (`span_is` of PlanLaws); those are at most 255 (`span_low`).
use native.Mathlib.Omega.{arith}
use Rattle.quantifier_plans.proofs.PlanLaws.{span_low, span_is}
use Rattle.quantifier_plans.proofs.group_span.Goals as goal

pub overflow_add-result : goal.overflow_add-result
overflow_add-result c =
    omega (arith, span_low c.requires c.particles_from.ensures c.span.ensures)

pub returns : goal.returns
returns c = (
  span_is c.requires c.particles_from.ensures c.span.ensures,
  omega (arith, span_low c.requires c.particles_from.ensures c.span.ensures),
)
