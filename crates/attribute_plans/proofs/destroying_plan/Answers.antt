-- `attribute_plans::destroying_plan` meets its contract: the plan is that of `destroy_attribute_plan`, with `owner_at`
-- put in for what `owner_of` gave.
use mathlib.Core.Path.{ap, ◌∙◌}
use Prim.Native.Nat.{ℕ}
use Rattle.plans.specs.AttributeCalls.{destroy_attribute_plan}
use Rattle.attribute_plans.proofs.destroying_plan.Goals as goal

pub returns : goal.returns
returns c =
    c.destroy_attribute_plan.ensures ∙ ap (λ (o : ℕ). destroy_attribute_plan o c.args.attribute) c.owner_of.ensures
