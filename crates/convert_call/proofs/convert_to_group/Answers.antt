-- `convert_call::convert_to_group` meets its contract: the call is refused on a bad store and by a condition
-- (`bad_by`, `turned_away_by` of CallLaws). Else the edit fits at the place (`convert_fits` of Laws), and
-- `edit_model` writes what the change leaves (`kept_answers` of Keeping).
use mathlib.Core.Bool.{not}
use mathlib.Core.Path.{refl, sym, ap}
use lib.ListN.{length}
use Rattle.std.proofs.lemmas.Result.{err_from_is_err_and}
use Rattle.rules.specs.Lines.{lines}
use Rattle.rules.specs.Change.{convert_to_group}
use Rattle.store_laws.specs.Stores.{store_in}
use Rattle.store_writer.proofs.CallLaws.{passed, bad_by, turned_away_by}
use Rattle.model_edit.proofs.Fits.{asks}
use Rattle.model_edit.proofs.Keeping.{kept_answers, keeping_sized}
use Rattle.convert_call.proofs.Laws.{convert_fits, convert_form, convert_plan}
use Rattle.rules.proofs.WellFormedLaws.{none_value}
use Rattle.layout.specs.Bodies.{width_of}
use Rattle.convert_call.proofs.convert_to_group.Goals as goal

pub returns-then-not-passes : goal.returns-then-not-passes
returns-then-not-passes c =
    let a = c.args in
    bad_by (convert_to_group a.owner a.place.now a.count a.sort) a.store.now (length a.out.now) a.out.now
    (ap not c.if-not-passes.true) c.passes.ensures

pub returns-in_err-members : goal.returns-in_err-members
returns-in_err-members c =
    let a = c.args in
    let p = err_from_is_err_and c.from_residual.result c.from_residual.ensures.1 in
    rw (p.1, p.2)
    (turned_away_by (convert_to_group a.owner a.place.now a.count a.sort) a.store.now (length a.out.now) a.out.now
    (ap not c.if-not-passes.false) c.passes.ensures c.in_err-members.field-0.0 c.in_err-members.ensures.0)

pub invariant_of-change : goal.invariant_of-change
invariant_of-change c =
    let a = c.args in
    let none = sym c.in_ok-members.ensures.0 in
    let fits = convert_fits a.store.now (passed a.store.now (ap not c.if-not-passes.false) c.passes.ensures) a.owner a.place.now a.count a.sort none in
    let place = c.in_ok-members.ensures.1 in
    let edit = c.convert_edit-edit.result in
    let same = c.convert_edit-edit.ensures in
    record { fits = asks fits edit same place }

pub edit_model-requires : goal.edit_model-requires
edit_model-requires c =
    (none_value (width_of c.args.store.now), keeping_sized c.setting_plan-plan.ensures)

pub returns : goal.returns
returns c =
    let a = c.args in
    let none = sym c.in_ok-members.ensures.0 in
    let fits = convert_fits a.store.now (passed a.store.now (ap not c.if-not-passes.false) c.passes.ensures) a.owner a.place.now a.count a.sort none in
    let place = c.in_ok-members.ensures.1 in
    let edit = c.convert_edit-edit.result in
    let same = c.convert_edit-edit.ensures in
    kept_answers fits edit same place (convert_to_group a.owner a.place.now a.count a.sort) (length a.out.now) _ c.setting_plan-plan.ensures
    c.in_ok-members.ensures.0 refl (convert_form a.owner a.place.now a.count a.sort (store_in a.store.now).form)
    (convert_plan a.owner a.place.now a.count a.sort (store_in a.store.now).version (store_in a.store.now).form (lines 0 (store_in a.store.now).docs))
    c.edit_model.ensures
