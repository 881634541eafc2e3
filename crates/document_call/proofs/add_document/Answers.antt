-- `document_call::add_document` meets its contract: the returns are for a bad store (`bad_by` of CallLaws), a condition
-- (`turned_away_by`) and the answer of `edit` (`made_planned` of Calls, `add_document_planned` of CallsPlanned); what
-- `edit` requires is `add_document_asks` of Laws.
use mathlib.Core.Path.{refl, ap}
use mathlib.Core.Bool.{not}
use Rattle.std.proofs.lemmas.Result.{err_from_is_err_and}
use lib.ListN.{length}
use Rattle.rules.specs.Change.{add_document}
use Rattle.store_laws.specs.Stores.{store_in}
use Rattle.plans.specs.CallPlans.{add_document_plan}
use Rattle.plans.proofs.CallsPlanned.{add_document_planned}
use Rattle.store_writer.proofs.CallLaws.{bad_by, turned_away_by}
use Rattle.call_laws.proofs.Calls.{made_planned}
use Rattle.document_call.proofs.Laws.{add_document_asks}
use Rattle.document_call.proofs.add_document.Goals as goal

pub returns-then-not-passes : goal.returns-then-not-passes
returns-then-not-passes c =
    bad_by (add_document c.args.definition c.args.text.now) c.args.store.now (length c.args.out.now) c.args.out.now
    (ap not c.if-not-passes.true) c.passes.ensures

pub returns-in_err-add_document_refusal : goal.returns-in_err-add_document_refusal
returns-in_err-add_document_refusal c =
    let passed_on = err_from_is_err_and c.from_residual.result c.from_residual.ensures.1 in
    rw (passed_on.1, passed_on.2)
    (turned_away_by (add_document c.args.definition c.args.text.now) c.args.store.now (length c.args.out.now)
    c.args.out.now (ap not c.if-not-passes.false) c.passes.ensures c.in_err-add_document_refusal.field-0.0 c.in_err-add_document_refusal.ensures)

pub edit-requires : goal.edit-requires
edit-requires c =
    add_document_asks c.args.store.now (ap not c.if-not-passes.false) c.passes.ensures c.args.definition c.args.text.now
    c.in_ok-add_document_refusal.ensures refl c.adding_document-plan.ensures

pub returns : goal.returns
returns c =
    made_planned (add_document c.args.definition c.args.text.now) c.args.store.now (length c.args.out.now)
    c.args.out.now (add_document_plan c.args.definition) _ c.args.text.now (ap not c.if-not-passes.false) c.passes.ensures
    c.in_ok-add_document_refusal.ensures refl c.adding_document-plan.ensures
    (λ g e. add_document_planned (store_in c.args.store.now) g c.args.definition c.args.text.now e) c.edit.ensures
