-- `add_element_call::add_element` meets its contract: the returns are for a bad store (`bad_by` of CallLaws), a condition
-- (`turned_away_by`) and the answer of `edit` (`made_planned` of Calls, `add_element_planned` of CallsPlanned); what
-- `adding_element` and `edit` require is `add_element_there` and `add_element_asks` of Laws.
use mathlib.Core.Path.{refl, ap}
use mathlib.Core.Bool.{not}
use Rattle.std.proofs.lemmas.Result.{err_from_is_err_and}
use lib.ListN.{length}
use Rattle.rules.specs.Change.{add_element}
use Rattle.store_laws.specs.Stores.{store_in}
use Rattle.plans.specs.CallPlans.{add_element_plan, child_serial}
use Rattle.plans.proofs.CallsPlanned.{add_element_planned}
use Rattle.store_writer.proofs.CallLaws.{bad_by, turned_away_by}
use Rattle.call_laws.proofs.Calls.{made_planned}
use Rattle.add_element_call.proofs.Laws.{add_element_asks, add_element_there}
use Rattle.add_element_call.proofs.add_element.Goals as goal

pub returns-then-not-passes : goal.returns-then-not-passes
returns-then-not-passes c =
    bad_by (add_element c.args.parent c.args.child c.args.definition c.args.text.now) c.args.store.now
    (length c.args.out.now) c.args.out.now (ap not c.if-not-passes.true) c.passes.ensures

pub returns-in_err-add_element_refusal : goal.returns-in_err-add_element_refusal
returns-in_err-add_element_refusal c =
    let passed_on = err_from_is_err_and c.from_residual.result c.from_residual.ensures.1 in
    rw (passed_on.1, passed_on.2)
    (turned_away_by (add_element c.args.parent c.args.child c.args.definition c.args.text.now) c.args.store.now
    (length c.args.out.now) c.args.out.now (ap not c.if-not-passes.false) c.passes.ensures
    c.in_err-add_element_refusal.field-0.0 c.in_err-add_element_refusal.ensures)

pub adding_element-plan-requires : goal.adding_element-plan-requires
adding_element-plan-requires c =
    add_element_there c.args.store.now (ap not c.if-not-passes.false) c.passes.ensures c.args.parent c.args.child
    c.args.definition c.args.text.now c.in_ok-add_element_refusal.ensures refl

pub edit-requires : goal.edit-requires
edit-requires c =
    add_element_asks c.args.store.now (ap not c.if-not-passes.false) c.passes.ensures c.args.parent c.args.child
    c.args.definition c.args.text.now c.in_ok-add_element_refusal.ensures refl
    c.adding_element-plan.ensures

pub returns : goal.returns
returns c =
    made_planned (add_element c.args.parent c.args.child c.args.definition c.args.text.now) c.args.store.now
    (length c.args.out.now) c.args.out.now
    (add_element_plan c.args.parent (child_serial c.args.parent c.args.child (store_in c.args.store.now))
    c.args.definition)
    _ c.args.text.now (ap not c.if-not-passes.false) c.passes.ensures c.in_ok-add_element_refusal.ensures refl
    c.adding_element-plan.ensures
    (λ g e. add_element_planned (store_in c.args.store.now) g c.args.parent c.args.child c.args.definition
    c.args.text.now e)
    c.edit.ensures
