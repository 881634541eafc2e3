-- `definition_removal::shifting` meets its contract: the return is the definition of `shifting`, with the 64 zeros of
-- `marks` for `unmarked`.
use mathlib.Core.Path.{refl}
use Rattle.plans.specs.CallPlans.{unmarked}
use Rattle.definition_removal.proofs.shifting.Goals as goal

pub returns : goal.returns
unfolding unmarked
returns c = refl
