-- `attribute_plans::adding_plan` meets its contract: the plan is that of `add_attribute_plan`, with the version in the
-- store's bodies put in for the one that was read (`version_of` of Version).
use mathlib.Core.Path.{ap, ◌∙◌}
use Prim.Native.Nat.{ℕ}
use Rattle.rules.specs.Layout.{sort_code}
use Rattle.plans.specs.AttributeCalls.{add_attribute_plan}
use Rattle.attribute_plans.proofs.Version.{version_of}
use Rattle.attribute_plans.proofs.adding_plan.Goals as goal

pub returns : goal.returns
returns c =
    let a = c.args in
    c.add_attribute_plan.ensures
    ∙ ap (λ (v : ℕ). add_attribute_plan v a.owner a.i (sort_code a.sort)) (c.version_in-version.ensures.value ∙ version_of a.store.now)
