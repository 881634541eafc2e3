-- `attribute_row_refusals::destroy_attribute_row_refusal` meets its contract by a law of AttributeRefusals for each
-- return: a refusal of `attribute_refusal` (`drop_early`), 7 where the element has no row of the attribute (`drop_7`),
-- and 15 if and only if the attribute is needed (`drop_last`).
use mathlib.Core.Bool.{Bool}
use mathlib.Core.List.{[], ◌∷◌}
use mathlib.Core.Path.{◌∙◌, refl, sym, ap}
use native.Mathlib.Omega.{arith}
use Rattle.std.proofs.lemmas.Result.{err_from_is_err_and}
use Rattle.rules.specs.Refusal.{◌if◌, first}
use Rattle.rules.specs.declared.Refusal.TheVariants.{NoRow}
use Rattle.store_check.proofs.StoreFacts.{Whole, whole}
use Rattle.document_rows.proofs.ElementFacts.{element_there}
use Rattle.document_rows.proofs.RowFacts.{row_of}
use Rattle.rules.proofs.GivenLaws.{refusal_some}
use Rattle.document_refusals.proofs.RefusalLaws.{refused_number}
use Rattle.attribute_row_refusals.proofs.AttributeRefusals.{needs_in, drop_early, drop_7, drop_last, known_of, inside}
use Rattle.attribute_row_refusals.proofs.destroy_attribute_row_refusal.Goals as goal

pub returns-in_err-i : goal.returns-in_err-i
returns-in_err-i c =
    let a = c.args in
    let p = err_from_is_err_and c.from_residual.result c.from_residual.ensures.1 in
    rw (p.1, p.2)
    (drop_early a.store.now (whole _ c.requires) a.attribute a.element c.in_err-i.ensures.refused (refusal_some _)).is

pub attribute_row_serial-requires : goal.attribute_row_serial-requires
attribute_row_serial-requires c = row_of _ (whole _ c.requires) c.in_ok-i.ensures.row

pub returns-in_err-ok_or : goal.returns-in_err-ok_or
returns-in_err-ok_or c =
    let a = c.args in
    let w : Whole a.store.now = whole _ c.requires in
    let p = err_from_is_err_and c.from_residual-in_err-ok_or.result c.from_residual-in_err-ok_or.ensures.1 in
    rw (p.1, p.2)
    (refused_number NoRow c.in_err-ok_or.ensures.ok_part c.in_err-ok_or.ensures.value
    ∙ (drop_7 a.store.now w a.attribute a.element c.in_ok-i.ensures.refused refl (element_there _ w _ c.in_ok-i.ensures.row)
    c.attribute_row_serial.ensures c.in_err-ok_or.ensures.ok_part).is)

pub row_definition-d-requires : goal.row_definition-d-requires
row_definition-d-requires c = let r = row_of _ (whole _ c.requires) c.in_ok-i.ensures.row in omega (arith, r.small, r.few)

pub needs-requires : goal.needs-requires
needs-requires c =
    let a = c.args in
    let w : Whole a.store.now = whole _ c.requires in (
      c.width_in-w.ensures.small,
      omega (arith, w.few_attributes, inside _ w a.attribute (known_of _ w a.attribute c.in_ok-i.ensures.refused refl)),
    )

pub returns-then-needs : goal.returns-then-needs
returns-then-needs c =
    let a = c.args in
    let w : Whole a.store.now = whole _ c.requires in
    sym (ap (λ (b : Bool). first (15 if b ∷ [])) c.if-needs.true)
    ∙ (drop_last a.store.now w a.attribute a.element c.in_ok-i.ensures.refused refl (element_there _ w _ c.in_ok-i.ensures.row)
    c.attribute_row_serial.ensures c.in_ok-ok_or.ensures.ok_part c.row_definition-d.ensures
    (c.needs.ensures
    ∙ needs_in a.store.now c.width_in-w.ensures.value c.attributes_of-attrs.ensures a.attribute
    c.version_in-version.ensures.value c.row_definition-d.result)).is

pub returns : goal.returns
returns c =
    let a = c.args in
    let w : Whole a.store.now = whole _ c.requires in
    sym (ap (λ (b : Bool). first (15 if b ∷ [])) c.if-needs.false)
    ∙ (drop_last a.store.now w a.attribute a.element c.in_ok-i.ensures.refused refl (element_there _ w _ c.in_ok-i.ensures.row)
    c.attribute_row_serial.ensures c.in_ok-ok_or.ensures.ok_part c.row_definition-d.ensures
    (c.needs.ensures
    ∙ needs_in a.store.now c.width_in-w.ensures.value c.attributes_of-attrs.ensures a.attribute
    c.version_in-version.ensures.value c.row_definition-d.result)).is
