-- `text_call::set_text` meets its contract: the call is refused on a bad store and by a condition (`bad_by`, `turned_away_by`
-- of CallLaws). Else what its calls require holds (`set_text_there`, `set_text_asks` of Laws), and the plan does what
-- the change does (`set_text_planned` of CallsPlanned, `made_planned` of Calls).
use mathlib.Core.Path.{refl, ap}
use mathlib.Core.Bool.{not}
use Rattle.std.proofs.lemmas.Result.{err_from_is_err_and}
use lib.ListN.{length}
use Rattle.rules.specs.Change.{set_text}
use Rattle.store_laws.specs.Stores.{store_in}
use Rattle.plans.specs.CallPlans.{set_text_plan, text_serial}
use Rattle.plans.proofs.CallsPlanned.{set_text_planned}
use Rattle.store_writer.proofs.CallLaws.{bad_by, turned_away_by}
use Rattle.call_laws.proofs.Calls.{made_planned}
use Rattle.text_call.proofs.Laws.{set_text_asks, set_text_there}
use Rattle.text_call.proofs.set_text.Goals as goal

pub returns-then-not-passes : goal.returns-then-not-passes
returns-then-not-passes c =
    bad_by (set_text c.args.element c.args.text.now) c.args.store.now (length c.args.out.now) c.args.out.now
    (ap not c.if-not-passes.true) c.passes.ensures

pub returns-in_err-set_text_refusal : goal.returns-in_err-set_text_refusal
returns-in_err-set_text_refusal c =
    let passed_on = err_from_is_err_and c.from_residual.result c.from_residual.ensures.1 in
    rw (passed_on.1, passed_on.2)
    (turned_away_by (set_text c.args.element c.args.text.now) c.args.store.now (length c.args.out.now) c.args.out.now
    (ap not c.if-not-passes.false) c.passes.ensures c.in_err-set_text_refusal.field-0.0 c.in_err-set_text_refusal.ensures)

pub setting_text-plan-requires : goal.setting_text-plan-requires
setting_text-plan-requires c =
    set_text_there c.args.store.now (ap not c.if-not-passes.false) c.passes.ensures c.args.element c.args.text.now c.in_ok-set_text_refusal.ensures refl

pub edit-requires : goal.edit-requires
edit-requires c =
    set_text_asks c.args.store.now (ap not c.if-not-passes.false) c.passes.ensures c.args.element c.args.text.now
    c.in_ok-set_text_refusal.ensures refl
    c.setting_text-plan.ensures

pub returns : goal.returns
returns c =
    made_planned (set_text c.args.element c.args.text.now) c.args.store.now (length c.args.out.now) c.args.out.now
    (set_text_plan (text_serial c.args.element (store_in c.args.store.now))) _ c.args.text.now (ap not c.if-not-passes.false)
    c.passes.ensures c.in_ok-set_text_refusal.ensures refl
    c.setting_text-plan.ensures
    (λ g e. set_text_planned (store_in c.args.store.now) g c.args.element c.args.text.now) c.edit.ensures
