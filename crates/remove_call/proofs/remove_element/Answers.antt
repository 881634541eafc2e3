-- `remove_call::remove_element` meets its contract: the call is refused on a bad store and by a condition
-- (`bad_by`, `turned_away_by` of CallLaws). Else an element stands at the place (`remove_fits` of Removing), and
-- `edit_model` writes what the change leaves (`removed_answers`).
use mathlib.Core.Bool.{not}
use mathlib.Core.Path.{refl, sym, ap}
use lib.ListN.{length}
use Rattle.std.proofs.lemmas.Result.{err_from_is_err_and}
use Rattle.rules.specs.Change.{remove_element}
use Rattle.model_writer.specs.declared.Edit.TheVariants.{Remove}
use Rattle.store_writer.proofs.CallLaws.{passed, bad_by, turned_away_by}
use Rattle.model_edit.proofs.Fits.{asks, owner_fits, place_low}
use Rattle.remove_call.proofs.Removing.{remove_fits, removed_answers, removing_sized}
use Rattle.rules.proofs.WellFormedLaws.{none_value}
use Rattle.layout.specs.Bodies.{width_of}
use Rattle.remove_call.proofs.remove_element.Goals as goal

pub returns-then-not-passes : goal.returns-then-not-passes
returns-then-not-passes c =
    let a = c.args in
    bad_by (remove_element a.owner a.place.now) a.store.now (length a.out.now) a.out.now
    (ap not c.if-not-passes.true) c.passes.ensures

pub returns-in_err-element : goal.returns-in_err-element
returns-in_err-element c =
    let a = c.args in
    let p = err_from_is_err_and c.from_residual.result c.from_residual.ensures.1 in
    rw (p.1, p.2)
    (turned_away_by (remove_element a.owner a.place.now) a.store.now (length a.out.now) a.out.now
    (ap not c.if-not-passes.false) c.passes.ensures c.in_err-element.field-0.0 c.in_err-element.ensures.0)

pub own_part-requires : goal.own_part-requires
own_part-requires c =
    let a = c.args in
    let none = sym c.in_ok-element.ensures.0 in
    let element = remove_fits a.store.now (passed a.store.now (ap not c.if-not-passes.false) c.passes.ensures) a.owner a.place.now none in
    owner_fits element.fits

pub removing_plan-plan-requires : goal.removing_plan-plan-requires
removing_plan-plan-requires c =
    let a = c.args in
    let none = sym c.in_ok-element.ensures.0 in
    let element = remove_fits a.store.now (passed a.store.now (ap not c.if-not-passes.false) c.passes.ensures) a.owner a.place.now none in
    let place = c.in_ok-element.ensures.1 in
    place_low (asks element.fits Remove refl place)

pub invariant_of-change : goal.invariant_of-change
invariant_of-change c =
    let a = c.args in
    let none = sym c.in_ok-element.ensures.0 in
    let element = remove_fits a.store.now (passed a.store.now (ap not c.if-not-passes.false) c.passes.ensures) a.owner a.place.now none in
    let place = c.in_ok-element.ensures.1 in
    record { fits = asks element.fits Remove refl place }

pub edit_model-requires : goal.edit_model-requires
edit_model-requires c =
    (none_value (width_of c.args.store.now), removing_sized _ _ c.removing_plan-plan.ensures)

pub returns : goal.returns
returns c =
    let a = c.args in
    let none = sym c.in_ok-element.ensures.0 in
    let element = remove_fits a.store.now (passed a.store.now (ap not c.if-not-passes.false) c.passes.ensures) a.owner a.place.now none in
    let place = c.in_ok-element.ensures.1 in
    removed_answers element place c.own_part.ensures (length a.out.now) _ c.removing_plan-plan.ensures
    c.in_ok-element.ensures.0 refl c.edit_model.ensures
