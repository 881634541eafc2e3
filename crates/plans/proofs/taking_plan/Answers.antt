-- `plans::taking_plan` meets its contract: the 64 marks of `NOTHING` are what `unmarked` of CallPlans unfolds to.
use mathlib.Core.Path.{refl}
use Rattle.plans.specs.CallPlans.{unmarked}
use Rattle.plans.proofs.taking_plan.Goals as goal

pub returns : goal.returns
unfolding unmarked
returns c = refl
