-- `destroy_attribute_row_call::destroy_attribute_row` meets its contract: the call is refused on a bad store and by a
-- condition (`bad_by`, `turned_away_by` of CallLaws). Else what `edit` requires holds (`takes_asks` of Calls), and the plan
-- does what the change does (`destroy_attribute_row_planned` of CallsPlanned, `made_planned` of Calls).
use mathlib.Core.Path.{refl, ap}
use mathlib.Core.Bool.{not}
use Rattle.std.proofs.lemmas.Result.{err_from_is_err_and}
use mathlib.Core.List.{[]}
use lib.ListN.{length}
use Rattle.rules.specs.Change.{destroy_attribute_row}
use Rattle.store_laws.specs.Stores.{store_in}
use Rattle.plans.specs.CallPlans.{destroy_attribute_row_plan}
use Rattle.plans.proofs.CallsPlanned.{destroy_attribute_row_planned}
use Rattle.row_walk.specs.declared.Which.TheVariants.{Serial, Attributes}
use Rattle.store_writer.proofs.CallLaws.{bad_by, turned_away_by}
use Rattle.call_laws.proofs.Calls.{made_planned, takes_asks}
use Rattle.destroy_attribute_row_call.proofs.destroy_attribute_row.Goals as goal

pub returns-then-not-passes : goal.returns-then-not-passes
returns-then-not-passes c =
    bad_by (destroy_attribute_row c.args.element c.args.attribute) c.args.store.now (length c.args.out.now) c.args.out.now
    (ap not c.if-not-passes.true) c.passes.ensures

pub returns-in_err-destroy_attribute_row_refusal : goal.returns-in_err-destroy_attribute_row_refusal
returns-in_err-destroy_attribute_row_refusal c =
    let passed_on = err_from_is_err_and c.from_residual.result c.from_residual.ensures.1 in
    rw (passed_on.1, passed_on.2)
    (turned_away_by (destroy_attribute_row c.args.element c.args.attribute) c.args.store.now (length c.args.out.now)
    c.args.out.now (ap not c.if-not-passes.false) c.passes.ensures c.in_err-destroy_attribute_row_refusal.field-0.0 c.in_err-destroy_attribute_row_refusal.ensures)

pub edit-requires : goal.edit-requires
edit-requires c =
    takes_asks c.args.store.now (ap not c.if-not-passes.false) c.passes.ensures (destroy_attribute_row c.args.element c.args.attribute)
    (Serial c.args.element) (Attributes c.args.attribute) c.in_ok-destroy_attribute_row_refusal.ensures refl c.destroying_attribute_row-plan.ensures

pub returns : goal.returns
returns c =
    made_planned (destroy_attribute_row c.args.element c.args.attribute) c.args.store.now (length c.args.out.now)
    c.args.out.now (destroy_attribute_row_plan c.args.element c.args.attribute) _ [] (ap not c.if-not-passes.false) c.passes.ensures
    c.in_ok-destroy_attribute_row_refusal.ensures refl c.destroying_attribute_row-plan.ensures
    (λ g e. destroy_attribute_row_planned (store_in c.args.store.now) g c.args.element c.args.attribute [] e)
    c.edit.ensures
