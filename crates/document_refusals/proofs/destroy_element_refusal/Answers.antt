-- `document_refusals::destroy_element_refusal` meets its contract by a law of ElementRefusals for each return: there is
-- no such element (`destroy_7`), it has no parent (`destroy_root`), or the parent's model does not take the other
-- children (`destroy_15`) or does (`destroy_0`).
use mathlib.Core.Path.{ap, subst, ◌∙◌}
use mathlib.Core.Bool.{not}
use native.Mathlib.Omega.{arith}
use Rattle.std.proofs.lemmas.Result.{err_from_is_err_and}
use Rattle.rules.specs.declared.Refusal.TheVariants.{NoRow}
use Rattle.store_check.proofs.StoreFacts.{Whole, whole}
use Rattle.document_rows.specs.Finding.{ElementRowAt}
use Rattle.document_rows.proofs.ElementFacts.{element_there, element_absent}
use Rattle.document_rows.proofs.RowFacts.{parent_row}
use Rattle.document_refusals.proofs.RefusalLaws.{refused_number}
use Rattle.document_refusals.proofs.ElementRefusals.{destroy_7, destroy_root, destroy_15, destroy_0}
use Rattle.document_refusals.proofs.destroy_element_refusal.Goals as goal

pub returns-in_err-ok_or : goal.returns-in_err-ok_or
returns-in_err-ok_or c =
    let w : Whole c.args.store.now = whole _ c.requires in
    let p = err_from_is_err_and c.from_residual.result c.from_residual.ensures.1 in
    rw (p.1, p.2)
    (refused_number NoRow c.in_err-ok_or.ensures.ok_part c.in_err-ok_or.ensures.value
    ∙ (destroy_7 _ w (element_absent _ w _ (subst (ElementRowAt c.args.store.now c.args.element) c.in_err-ok_or.ensures.ok_part c.find_element.ensures))).is)

pub returns-in_default : goal.returns-in_default
returns-in_default c =
    let w : Whole c.args.store.now = whole _ c.requires in
    let f = subst (ElementRowAt c.args.store.now c.args.element) c.in_ok-ok_or.ensures.ok_part c.find_element.ensures in
    (destroy_root _ w (element_there _ w _ f) c.in_default.ensures).is

pub fits_at-requires : goal.fits_at-requires
fits_at-requires c = (parent_row _ (whole _ c.requires) c.in-Some.ensures, omega arith)

pub returns-then-not-fits_at : goal.returns-then-not-fits_at
returns-then-not-fits_at c =
    let w : Whole c.args.store.now = whole _ c.requires in
    let f = subst (ElementRowAt c.args.store.now c.args.element) c.in_ok-ok_or.ensures.ok_part c.find_element.ensures in
    (destroy_15 _ w (element_there _ w _ f) c.in-Some.ensures c.fits_at.ensures (ap not c.if-not-fits_at.true)).is

pub returns : goal.returns
returns c =
    let w : Whole c.args.store.now = whole _ c.requires in
    let f = subst (ElementRowAt c.args.store.now c.args.element) c.in_ok-ok_or.ensures.ok_part c.find_element.ensures in
    (destroy_0 _ w (element_there _ w _ f) c.in-Some.ensures c.fits_at.ensures (ap not c.if-not-fits_at.false)).is
