-- `quantifier_calls::requantify` meets its contract: the returns are for a bad store (`bad_by` of CallLaws), a
-- condition (`turned_away_by`) and the answer of `edit_model` (`given_answers` of Requantified); what the calls
-- require is by `given` of Fitting, `owner_fits` of Fits, `edits_there` of Answering, `given_stands` and `given_sized`.
use mathlib.Core.Bool.{not}
use native.Mathlib.Omega.{arith}
use mathlib.Core.Path.{refl, sym, ap}
use lib.ListN.{length}
use Rattle.std.proofs.lemmas.Result.{err_from_is_err_and}
use Rattle.quantifier_refusals.specs.Requantifying.{requantify}
use Rattle.store_writer.proofs.CallLaws.{passed, bad_by, turned_away_by}
use Rattle.model_edit.proofs.Fits.{owner_fits}
use Rattle.quantifier_calls.proofs.Fitting.{given as conditions-given}
use Rattle.quantifier_calls.proofs.Answering.{edits_there}
use Rattle.quantifier_calls.proofs.Requantified.{given_stands, given_sized, given_answers}
use Rattle.quantifier_calls.proofs.requantify.Goals as goal

pub returns-then-not-passes : goal.returns-then-not-passes
returns-then-not-passes c =
    let a = c.args in
    bad_by (requantify a.group a.owner a.place.now a.quantifier a.text.now) a.store.now (length a.out.now) a.out.now
    (ap not c.if-not-passes.true) c.passes.ensures

pub requantify_refusal-requires : goal.requantify_refusal-requires
requantify_refusal-requires c =
    passed c.args.store.now (ap not c.if-not-passes.false) c.passes.ensures

pub returns-in_err-found : goal.returns-in_err-found
returns-in_err-found c =
    let a = c.args in
    let p = err_from_is_err_and c.from_residual.result c.from_residual.ensures.1 in
    rw (p.1, p.2)
    (turned_away_by (requantify a.group a.owner a.place.now a.quantifier a.text.now) a.store.now (length a.out.now) a.out.now
    (ap not c.if-not-passes.false) c.passes.ensures c.in_err-found.field-0.0 c.in_err-found.ensures.0)

pub overflow_cast-quantifier : goal.overflow_cast-quantifier
overflow_cast-quantifier c =
    let a = c.args in
    let none = sym c.in_ok-found.ensures.0 in
    let given = conditions-given a.store.now (passed a.store.now (ap not c.if-not-passes.false) c.passes.ensures) a.owner a.place.now a.quantifier a.text.now a.group none in
    omega (arith, given.code)

pub own_part-part-requires : goal.own_part-part-requires
own_part-part-requires c =
    let a = c.args in
    let none = sym c.in_ok-found.ensures.0 in
    let given = conditions-given a.store.now (passed a.store.now (ap not c.if-not-passes.false) c.passes.ensures) a.owner a.place.now a.quantifier a.text.now a.group none in
    owner_fits given.fits

pub new_plan-plan-requires : goal.new_plan-plan-requires
new_plan-plan-requires c =
    let a = c.args in
    let none = sym c.in_ok-found.ensures.0 in
    let given = conditions-given a.store.now (passed a.store.now (ap not c.if-not-passes.false) c.passes.ensures) a.owner a.place.now a.quantifier a.text.now a.group none in
    let place = c.in_ok-found.ensures.1 in
    (given_stands place c.own_part-part.ensures given, owner_fits given.fits)

pub invariant_of-change : goal.invariant_of-change
invariant_of-change c =
    let a = c.args in
    let none = sym c.in_ok-found.ensures.0 in
    let given = conditions-given a.store.now (passed a.store.now (ap not c.if-not-passes.false) c.passes.ensures) a.owner a.place.now a.quantifier a.text.now a.group none in
    let place = c.in_ok-found.ensures.1 in
    record { fits = edits_there given.fits place c.from-new.ensures }

pub edit_model-requires : goal.edit_model-requires
edit_model-requires c =
    let a = c.args in
    let none = sym c.in_ok-found.ensures.0 in
    let given = conditions-given a.store.now (passed a.store.now (ap not c.if-not-passes.false) c.passes.ensures) a.owner a.place.now a.quantifier a.text.now a.group none in
    let place = c.in_ok-found.ensures.1 in
    (given.value, given_sized place c.own_part-part.ensures c.from-new.ensures a.group given c.new_plan-plan.ensures)

pub returns : goal.returns
returns c =
    let a = c.args in
    let none = sym c.in_ok-found.ensures.0 in
    let given = conditions-given a.store.now (passed a.store.now (ap not c.if-not-passes.false) c.passes.ensures) a.owner a.place.now a.quantifier a.text.now a.group none in
    let place = c.in_ok-found.ensures.1 in
    given_answers place c.own_part-part.ensures c.from-new.ensures a.group given c.new_plan-plan.ensures
    (length a.out.now) _ c.in_ok-found.ensures.0 refl c.edit_model.ensures
