-- `destroy_element_call::destroy_element` meets its contract: the returns are for a bad store (`bad_by` of CallLaws), a
-- condition (`turned_away_by`) and the answer of `edit` (`made_planned` of Calls, `destroy_element_planned` of
-- CallsPlanned); what `edit` requires is `takes_asks` of Calls.
use mathlib.Core.Path.{refl, ap}
use mathlib.Core.Bool.{not}
use Rattle.std.proofs.lemmas.Result.{err_from_is_err_and}
use mathlib.Core.List.{[]}
use lib.ListN.{length}
use Rattle.rules.specs.Change.{destroy_element}
use Rattle.store_laws.specs.Stores.{store_in}
use Rattle.plans.specs.CallPlans.{destroy_element_plan}
use Rattle.plans.proofs.CallsPlanned.{destroy_element_planned}
use Rattle.row_walk.specs.declared.Which.TheVariants.{Everything, Serial}
use Rattle.store_writer.proofs.CallLaws.{bad_by, turned_away_by}
use Rattle.call_laws.proofs.Calls.{made_planned, takes_asks}
use Rattle.destroy_element_call.proofs.destroy_element.Goals as goal

pub returns-then-not-passes : goal.returns-then-not-passes
returns-then-not-passes c =
    bad_by (destroy_element c.args.element) c.args.store.now (length c.args.out.now) c.args.out.now (ap not c.if-not-passes.true)
    c.passes.ensures

pub returns-in_err-destroy_element_refusal : goal.returns-in_err-destroy_element_refusal
returns-in_err-destroy_element_refusal c =
    let passed_on = err_from_is_err_and c.from_residual.result c.from_residual.ensures.1 in
    rw (passed_on.1, passed_on.2)
    (turned_away_by (destroy_element c.args.element) c.args.store.now (length c.args.out.now) c.args.out.now (ap not c.if-not-passes.false)
    c.passes.ensures c.in_err-destroy_element_refusal.field-0.0 c.in_err-destroy_element_refusal.ensures)

pub edit-requires : goal.edit-requires
edit-requires c =
    takes_asks c.args.store.now (ap not c.if-not-passes.false) c.passes.ensures (destroy_element c.args.element) Everything
    (Serial c.args.element) c.in_ok-destroy_element_refusal.ensures refl
    c.destroying_element-plan.ensures

pub returns : goal.returns
returns c =
    made_planned (destroy_element c.args.element) c.args.store.now (length c.args.out.now) c.args.out.now
    (destroy_element_plan c.args.element) _ [] (ap not c.if-not-passes.false) c.passes.ensures
    c.in_ok-destroy_element_refusal.ensures refl c.destroying_element-plan.ensures
    (λ g e. destroy_element_planned (store_in c.args.store.now) g c.args.element []) c.edit.ensures
