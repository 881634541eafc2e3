-- `set_attribute_call::set_attribute` meets its contract: the call is refused on a bad store and by a condition
-- (`bad_by`, `turned_away_by` of CallLaws). Else what its calls require holds (`set_attribute_there`, `set_attribute_asks` of
-- Laws), and the plan does what the change does (`set_attribute_planned` of CallsPlanned, `made_planned` of Calls).
use mathlib.Core.Path.{refl, ap}
use mathlib.Core.Bool.{not}
use Rattle.std.proofs.lemmas.Result.{err_from_is_err_and}
use lib.ListN.{length}
use Rattle.rules.specs.Change.{set_attribute}
use Rattle.store_laws.specs.Stores.{store_in}
use Rattle.plans.specs.CallPlans.{set_attribute_plan, attribute_serial}
use Rattle.plans.proofs.CallsPlanned.{set_attribute_planned}
use Rattle.store_writer.proofs.CallLaws.{bad_by, turned_away_by}
use Rattle.call_laws.proofs.Calls.{made_planned}
use Rattle.set_attribute_call.proofs.Laws.{set_attribute_asks, set_attribute_there}
use Rattle.set_attribute_call.proofs.set_attribute.Goals as goal

pub returns-then-not-passes : goal.returns-then-not-passes
returns-then-not-passes c =
    bad_by (set_attribute c.args.element c.args.attribute c.args.value.now) c.args.store.now (length c.args.out.now)
    c.args.out.now (ap not c.if-not-passes.true) c.passes.ensures

pub returns-in_err-set_attribute_refusal : goal.returns-in_err-set_attribute_refusal
returns-in_err-set_attribute_refusal c =
    let passed_on = err_from_is_err_and c.from_residual.result c.from_residual.ensures.1 in
    rw (passed_on.1, passed_on.2)
    (turned_away_by (set_attribute c.args.element c.args.attribute c.args.value.now) c.args.store.now
    (length c.args.out.now) c.args.out.now (ap not c.if-not-passes.false) c.passes.ensures
    c.in_err-set_attribute_refusal.field-0.0 c.in_err-set_attribute_refusal.ensures)

pub setting_attribute-plan-requires : goal.setting_attribute-plan-requires
setting_attribute-plan-requires c =
    set_attribute_there c.args.store.now (ap not c.if-not-passes.false) c.passes.ensures c.args.element c.args.attribute
    c.args.value.now c.in_ok-set_attribute_refusal.ensures refl

pub edit-requires : goal.edit-requires
edit-requires c =
    set_attribute_asks c.args.store.now (ap not c.if-not-passes.false) c.passes.ensures c.args.element c.args.attribute
    c.args.value.now c.in_ok-set_attribute_refusal.ensures refl
    c.setting_attribute-plan.ensures

pub returns : goal.returns
returns c =
    made_planned (set_attribute c.args.element c.args.attribute c.args.value.now) c.args.store.now
    (length c.args.out.now) c.args.out.now
    (set_attribute_plan c.args.element c.args.attribute
    (attribute_serial c.args.element c.args.attribute (store_in c.args.store.now)))
    _ c.args.value.now (ap not c.if-not-passes.false) c.passes.ensures c.in_ok-set_attribute_refusal.ensures refl
    c.setting_attribute-plan.ensures
    (λ g e. set_attribute_planned (store_in c.args.store.now) g c.args.element c.args.attribute c.args.value.now e)
    c.edit.ensures
