-- `attribute_row_refusals::attribute_refusal` meets its contract by a law of AttributeRefusals for each return: the
-- attribute is not there (`refused_past`), the element is not (`refused_none`), the attribute is of another definition
-- (`refused_other`), or none of these (`refused_not`).
use mathlib.Core.Path.{sym, subst, ◌∙◌}
use native.Mathlib.Omega.{arith}
use Rattle.std.proofs.lemmas.Result.{err_from_is_err_and}
use Rattle.rules.specs.declared.Refusal.TheVariants.{NoRow}
use Rattle.store_check.proofs.StoreFacts.{Whole, whole}
use Rattle.document_rows.specs.Finding.{ElementRowAt}
use Rattle.document_rows.proofs.ElementFacts.{element_there, element_absent}
use Rattle.document_rows.proofs.RowFacts.{row_of}
use Rattle.document_refusals.proofs.RefusalLaws.{refused_number}
use Rattle.attribute_row_refusals.proofs.AttributeRefusals.{refused_past, refused_none, refused_other, refused_not, as_number}
use Rattle.attribute_row_refusals.proofs.attribute_refusal.Goals as goal

pub returns-then-attribute-attribute_count-clause-refused : goal.returns-then-attribute-attribute_count-clause-refused
returns-then-attribute-attribute_count-clause-refused c =
    refused_past _ (whole _ c.requires) c.args.attribute (omega (arith, c.attribute_count.ensures.value))

pub returns-in_err-i-clause-refused : goal.returns-in_err-i-clause-refused
returns-in_err-i-clause-refused c =
    let w : Whole c.args.store.now = whole _ c.requires in
    let p = err_from_is_err_and c.from_residual.result c.from_residual.ensures.1 in
    rw (p.1, p.2)
    (as_number _ w c.args.attribute (refused_number NoRow c.in_err-i.ensures.ok_part c.in_err-i.ensures.value)
    (refused_none _ w c.args.attribute (omega (arith, c.attribute_count.ensures.value))
    (element_absent _ w _ (subst (ElementRowAt c.args.store.now c.args.element) c.in_err-i.ensures.ok_part c.find_element.ensures))))

pub returns-in_err-i-clause-row : goal.returns-in_err-i-clause-row
returns-in_err-i-clause-row c =
    let p = err_from_is_err_and c.from_residual.result c.from_residual.ensures.1 in rw p.1 tt

pub owner_of-owner-requires : goal.owner_of-owner-requires
owner_of-owner-requires c =
    let w : Whole c.args.store.now = whole _ c.requires in
    omega (arith, w.few_attributes, c.attribute_count.ensures.value)

pub row_definition-requires : goal.row_definition-requires
row_definition-requires c =
    let r = row_of _ (whole _ c.requires) (subst (ElementRowAt c.args.store.now c.args.element) c.in_ok-i.ensures.ok_part c.find_element.ensures) in
    omega (arith, r.small, r.few)

pub returns-then-owner-row_definition-clause-refused : goal.returns-then-owner-row_definition-clause-refused
returns-then-owner-row_definition-clause-refused c =
    let w : Whole c.args.store.now = whole _ c.requires in
    refused_other _ w c.args.attribute (omega (arith, c.attribute_count.ensures.value))
    (element_there _ w _ (subst (ElementRowAt c.args.store.now c.args.element) c.in_ok-i.ensures.ok_part c.find_element.ensures))
    (λ e. c.if-owner-row_definition.true (c.owner_of-owner.ensures ∙ e ∙ sym c.row_definition.ensures))

pub returns-clause-refused : goal.returns-clause-refused
returns-clause-refused c =
    let w : Whole c.args.store.now = whole _ c.requires in
    refused_not _ w c.args.attribute (omega (arith, c.attribute_count.ensures.value))
    (element_there _ w _ (subst (ElementRowAt c.args.store.now c.args.element) c.in_ok-i.ensures.ok_part c.find_element.ensures))
    (sym c.owner_of-owner.ensures ∙ c.if-owner-row_definition.false ∙ c.row_definition.ensures)

pub returns-clause-row : goal.returns-clause-row
returns-clause-row c = subst (ElementRowAt c.args.store.now c.args.element) c.in_ok-i.ensures.ok_part c.find_element.ensures
