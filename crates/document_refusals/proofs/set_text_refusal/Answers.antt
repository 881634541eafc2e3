-- `document_refusals::set_text_refusal` meets its contract: the tests of the text, of the element's row and of its kind
-- decide the three conditions of `set_text` in their order (`text_3`, `text_7`, `text_9`, `text_0` of RefusalLaws).
use mathlib.Core.Path.{ap, subst, ◌∙◌}
use mathlib.Core.Bool.{not}
use Rattle.std.proofs.lemmas.Result.{err_from_is_err_and}
use Rattle.rules.specs.declared.Kind.TheVariants.{Pcdata}
use Rattle.rules.specs.declared.Refusal.TheVariants.{NoRow}
use Rattle.store_check.proofs.StoreFacts.{Whole, whole}
use Rattle.document_rows.specs.Finding.{ElementRowAt}
use Rattle.document_rows.proofs.ElementFacts.{element_there, element_absent}
use Rattle.document_rows.proofs.RowFacts.{row_of}
use Rattle.document_refusals.proofs.RefusalLaws.{other_kind_is, same_kind_is, kind_read, text_3, text_7, text_9, text_0, refused_number}
use Rattle.document_refusals.proofs.set_text_refusal.Goals as goal

pub returns-then-not-is_value : goal.returns-then-not-is_value
returns-then-not-is_value c =
    (text_3 _ (whole _ c.requires) _ _ c.width_in-w.ensures c.is_value.ensures (ap not c.if-not-is_value.true)).is

pub returns-in_err-i : goal.returns-in_err-i
returns-in_err-i c =
    let w : Whole c.args.store.now = whole _ c.requires in
    let p = err_from_is_err_and c.from_residual.result c.from_residual.ensures.1 in
    rw (p.1, p.2)
    (refused_number NoRow c.in_err-i.ensures.ok_part c.in_err-i.ensures.value
    ∙ (text_7 _ w _ _ c.width_in-w.ensures c.is_value.ensures (ap not c.if-not-is_value.false)
    (element_absent _ w _ (subst (ElementRowAt c.args.store.now c.args.element) c.in_err-i.ensures.ok_part c.find_element.ensures))).is)

pub content_kind_at-requires : goal.content_kind_at-requires
content_kind_at-requires c = row_of _ (whole _ c.requires) (subst (ElementRowAt c.args.store.now c.args.element) c.in_ok-i.ensures.ok_part c.find_element.ensures)

pub returns-then-ne : goal.returns-then-ne
returns-then-ne c =
    let w : Whole c.args.store.now = whole _ c.requires in
    let f = subst (ElementRowAt c.args.store.now c.args.element) c.in_ok-i.ensures.ok_part c.find_element.ensures in
    (text_9 _ w _ _ c.width_in-w.ensures c.is_value.ensures (ap not c.if-not-is_value.false)
    (element_there _ w _ f) (kind_read _ w (element_there _ w _ f) c.content_kind_at.ensures) (other_kind_is _ Pcdata c.ne.ensures c.if-ne.true)).is

pub returns : goal.returns
returns c =
    let w : Whole c.args.store.now = whole _ c.requires in
    let f = subst (ElementRowAt c.args.store.now c.args.element) c.in_ok-i.ensures.ok_part c.find_element.ensures in
    (text_0 _ w _ _ c.width_in-w.ensures c.is_value.ensures (ap not c.if-not-is_value.false)
    (element_there _ w _ f) (kind_read _ w (element_there _ w _ f) c.content_kind_at.ensures) (same_kind_is _ Pcdata c.ne.ensures c.if-ne.false)).is
