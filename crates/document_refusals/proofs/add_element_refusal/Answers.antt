-- `document_refusals::add_element_refusal` meets its contract: each return gives the number of the first condition of
-- change 12 that holds, those before it not holding: 3 or 6 (`add_early`), 7 (`add_7`), 8 (`add_8`), 15 where the
-- parent is not COMPLEX or its children would not fit (`add_15`), else 0 (`add_0`).
use mathlib.Core.Bool.{not}
use mathlib.Core.Path.{refl, ap, subst, ◌∙◌}
use native.Mathlib.Numerals.{add-one}
use Prim.Native.Nat.{ℕ, suc}
use Rattle.std.proofs.lemmas.Result.{err_from_is_err_and}
use Rattle.rules.specs.declared.Kind.TheVariants.{Complex}
use Rattle.rules.specs.declared.Refusal.TheVariants.{NoRow}
use Rattle.store_check.proofs.StoreFacts.{Whole, whole}
use Rattle.document_rows.specs.Finding.{ElementRowAt, fits_at}
use Rattle.document_rows.proofs.ElementFacts.{element_there, element_absent}
use Rattle.document_rows.proofs.RowFacts.{row_of}
use Rattle.rules.proofs.GivenLaws.{refusal_some}
use Rattle.document_refusals.proofs.RefusalLaws.{other_kind_is, same_kind_is, kind_read, refused_number}
use Rattle.document_refusals.proofs.ElementRefusals.{add_early, add_7, add_8, add_15, add_0, other_kind, complex_kind, definition_small}
use Rattle.document_refusals.proofs.add_element_refusal.Goals as goal

pub returns-in_err-add_document_refusal : goal.returns-in_err-add_document_refusal
returns-in_err-add_document_refusal c =
    let a = c.args in
    let p = err_from_is_err_and c.from_residual.result c.from_residual.ensures.1 in
    rw (p.1, p.2)
    (add_early a.store.now (whole _ c.requires) a.parent a.child a.definition a.text.now c.in_err-add_document_refusal.ensures (refusal_some _)).is

pub returns-in_err-i : goal.returns-in_err-i
returns-in_err-i c =
    let a = c.args in
    let w : Whole a.store.now = whole _ c.requires in
    let p = err_from_is_err_and c.from_residual-in_err-i.result c.from_residual-in_err-i.ensures.1 in
    rw (p.1, p.2)
    (refused_number NoRow c.in_err-i.ensures.ok_part c.in_err-i.ensures.value
    ∙ (add_7 a.store.now w a.parent a.child a.definition a.text.now c.in_ok-add_document_refusal.ensures refl
    (element_absent _ w _ (subst (ElementRowAt a.store.now a.parent) c.in_err-i.ensures.ok_part c.find_element.ensures))).is)

pub has_place-requires : goal.has_place-requires
has_place-requires c = row_of _ (whole _ c.requires) (subst (ElementRowAt c.args.store.now c.args.parent) c.in_ok-i.ensures.ok_part c.find_element.ensures)

pub returns-then-not-has_place : goal.returns-then-not-has_place
returns-then-not-has_place c =
    let a = c.args in
    let w : Whole a.store.now = whole _ c.requires in
    let e = element_there _ w _ (subst (ElementRowAt a.store.now a.parent) c.in_ok-i.ensures.ok_part c.find_element.ensures) in
    (add_8 a.store.now w a.parent a.child a.definition a.text.now c.in_ok-add_document_refusal.ensures refl e c.has_place.ensures (ap not c.if-not-has_place.true)).is

pub content_kind_at-requires : goal.content_kind_at-requires
content_kind_at-requires c = row_of _ (whole _ c.requires) (subst (ElementRowAt c.args.store.now c.args.parent) c.in_ok-i.ensures.ok_part c.find_element.ensures)

pub returns-then-ne : goal.returns-then-ne
returns-then-ne c =
    let a = c.args in
    let w : Whole a.store.now = whole _ c.requires in
    let e = element_there _ w _ (subst (ElementRowAt a.store.now a.parent) c.in_ok-i.ensures.ok_part c.find_element.ensures) in
    (add_15 a.store.now w a.parent a.child a.definition a.text.now c.in_ok-add_document_refusal.ensures refl e c.has_place.ensures (ap not c.if-not-has_place.false)
    (other_kind _ w e (kind_read _ w e c.content_kind_at.ensures) (fits_at a.store.now c.in_ok-i.i (suc a.child) a.definition 0)
    (other_kind_is _ Complex c.ne.ensures c.if-ne.true)) refl).is

pub fits_at-requires : goal.fits_at-requires
fits_at-requires c =
    let a = c.args in
    let w : Whole a.store.now = whole _ c.requires in (
      row_of _ w (subst (ElementRowAt a.store.now a.parent) c.in_ok-i.ensures.ok_part c.find_element.ensures),
      definition_small a.store.now w a.parent a.child a.definition a.text.now c.in_ok-add_document_refusal.ensures refl,
    )

pub returns-then-not-fits_at : goal.returns-then-not-fits_at
returns-then-not-fits_at c =
    let a = c.args in
    let w : Whole a.store.now = whole _ c.requires in
    let e = element_there _ w _ (subst (ElementRowAt a.store.now a.parent) c.in_ok-i.ensures.ok_part c.find_element.ensures) in
    (add_15 a.store.now w a.parent a.child a.definition a.text.now c.in_ok-add_document_refusal.ensures refl e c.has_place.ensures (ap not c.if-not-has_place.false)
    (complex_kind _ w e (kind_read _ w e c.content_kind_at.ensures) (fits_at a.store.now c.in_ok-i.i (suc a.child) a.definition 0)
    (same_kind_is _ Complex c.ne.ensures c.if-ne.false)
    (c.fits_at.ensures ∙ ap (λ (n : ℕ). fits_at a.store.now c.in_ok-i.i n a.definition 0) (add-one a.child))) c.if-not-fits_at.true).is

pub returns : goal.returns
returns c =
    let a = c.args in
    let w : Whole a.store.now = whole _ c.requires in
    let e = element_there _ w _ (subst (ElementRowAt a.store.now a.parent) c.in_ok-i.ensures.ok_part c.find_element.ensures) in
    (add_0 a.store.now w a.parent a.child a.definition a.text.now c.in_ok-add_document_refusal.ensures refl e c.has_place.ensures (ap not c.if-not-has_place.false)
    (complex_kind _ w e (kind_read _ w e c.content_kind_at.ensures) (fits_at a.store.now c.in_ok-i.i (suc a.child) a.definition 0)
    (same_kind_is _ Complex c.ne.ensures c.if-ne.false)
    (c.fits_at.ensures ∙ ap (λ (n : ℕ). fits_at a.store.now c.in_ok-i.i n a.definition 0) (add-one a.child))) c.if-not-fits_at.false).is
