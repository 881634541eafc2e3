-- `insert_call::insert_element` meets its contract: the call is refused on a bad store and by a condition
-- (`bad_by`, `turned_away_by` of CallLaws). Else what its calls require holds, as no condition does (`insertion`
-- of Insertion), and `edit_model` writes what the change leaves (`inserted_answers`).
use mathlib.Core.Bool.{not}
use native.Mathlib.Omega.{arith}
use mathlib.Core.Path.{refl, sym, ap}
use lib.ListN.{length}
use Rattle.std.proofs.lemmas.Result.{err_from_is_err_and}
use Rattle.rules.specs.Decode.{quantifier_of}
use Rattle.rules.specs.Change.{insert_element}
use Rattle.model_writer.specs.declared.Edit.TheVariants.{Insert}
use Rattle.store_writer.proofs.CallLaws.{passed, bad_by, turned_away_by}
use Rattle.model_edit.proofs.Fits.{asks, owner_fits, place_low}
use Rattle.insert_call.proofs.Insertion.{insertion, edit_same, inserting_sized, inserted_answers}
use Rattle.insert_call.proofs.insert_element.Goals as goal

pub returns-then-not-passes : goal.returns-then-not-passes
returns-then-not-passes c =
    let a = c.args in
    bad_by (insert_element a.owner a.place.now a.definition a.quantifier a.text.now) a.store.now (length a.out.now) a.out.now
    (ap not c.if-not-passes.true) c.passes.ensures

pub returns-in_err-gap : goal.returns-in_err-gap
returns-in_err-gap c =
    let a = c.args in
    let p = err_from_is_err_and c.from_residual.result c.from_residual.ensures.1 in
    rw (p.1, p.2)
    (turned_away_by (insert_element a.owner a.place.now a.definition a.quantifier a.text.now) a.store.now (length a.out.now) a.out.now
    (ap not c.if-not-passes.false) c.passes.ensures c.in_err-gap.field-0.0 c.in_err-gap.ensures.0)

pub own_part-part-requires : goal.own_part-part-requires
own_part-part-requires c =
    let a = c.args in
    let none = sym c.in_ok-gap.ensures.0 in
    let inserted = insertion a.store.now (passed a.store.now (ap not c.if-not-passes.false) c.passes.ensures) a.owner a.place.now a.definition a.quantifier a.text.now none in
    owner_fits inserted.fits

pub inserting_plan-plan-requires : goal.inserting_plan-plan-requires
inserting_plan-plan-requires c =
    let a = c.args in
    let none = sym c.in_ok-gap.ensures.0 in
    let inserted = insertion a.store.now (passed a.store.now (ap not c.if-not-passes.false) c.passes.ensures) a.owner a.place.now a.definition a.quantifier a.text.now none in
    let place = c.in_ok-gap.ensures.1 in
    let edit = Insert (quantifier_of a.quantifier) a.definition in
    (place_low (asks inserted.fits edit (edit_same inserted refl) place), inserted.code)

pub overflow_cast-quantifier : goal.overflow_cast-quantifier
overflow_cast-quantifier c =
    let a = c.args in
    let none = sym c.in_ok-gap.ensures.0 in
    let inserted = insertion a.store.now (passed a.store.now (ap not c.if-not-passes.false) c.passes.ensures) a.owner a.place.now a.definition a.quantifier a.text.now none in
    record { fits = omega (arith, inserted.code) }

pub invariant_of-change : goal.invariant_of-change
invariant_of-change c =
    let a = c.args in
    let none = sym c.in_ok-gap.ensures.0 in
    let inserted = insertion a.store.now (passed a.store.now (ap not c.if-not-passes.false) c.passes.ensures) a.owner a.place.now a.definition a.quantifier a.text.now none in
    let place = c.in_ok-gap.ensures.1 in
    record { fits = asks inserted.fits (Insert _ a.definition) (edit_same inserted c.from.ensures) place }

pub edit_model-requires : goal.edit_model-requires
edit_model-requires c =
    let a = c.args in
    let none = sym c.in_ok-gap.ensures.0 in
    let inserted = insertion a.store.now (passed a.store.now (ap not c.if-not-passes.false) c.passes.ensures) a.owner a.place.now a.definition a.quantifier a.text.now none in
    (inserted.text, inserting_sized inserted _ _ c.inserting_plan-plan.ensures)

pub returns : goal.returns
returns c =
    let a = c.args in
    let none = sym c.in_ok-gap.ensures.0 in
    let inserted = insertion a.store.now (passed a.store.now (ap not c.if-not-passes.false) c.passes.ensures) a.owner a.place.now a.definition a.quantifier a.text.now none in
    let place = c.in_ok-gap.ensures.1 in
    inserted_answers inserted c.from.ensures place c.own_part-part.ensures (length a.out.now)
    c.inserting_plan-plan.ensures c.edit_model.ensures
