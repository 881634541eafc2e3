-- `store_writer::edit_form` meets its contract: the case split is on the number of the first limit that is passed: if
-- there is one it is the answer (`edit_refused` of EditLaws), else the store is written (`edit_written`); the form is
-- no longer than `most_form` (`form_short` of FormBytesLaws in `store_laws`).
use Rattle.layout.proofs.LayoutLaws.{width_within}
use Rattle.store_laws.proofs.StoreLaws.{holds}
use Rattle.std.proofs.lemmas.Result.{err_from_is_err_and}
use Rattle.rules.proofs.GivenLaws.{refusal_some}
use mathlib.Core.Path.{refl}
use Rattle.store_laws.proofs.FormBytesLaws.{form_short}
use Rattle.store_writer.proofs.EditLaws.{edit_refused, edit_written}
use Rattle.store_writer.proofs.edit_form.Goals as goal

pub refusal-requires : goal.refusal-requires
refusal-requires c = (c.requires.0, c.requires.1, c.requires.2, form_short c.requires.3 (width_within c.args.store.now))

pub returns-in_err-refusal : goal.returns-in_err-refusal
returns-in_err-refusal c =
    let a = c.args in
    let h = holds a.store.now c.requires.0 in
    let passed_on = err_from_is_err_and c.from_residual.result c.from_residual.ensures.1 in
    rw (passed_on.1, passed_on.2)
    (edit_refused h c.requires.3 a.plan a.text.now a.out.now c.in_err-refusal.ensures (refusal_some c.in_err-refusal.field-0.0))

pub returns : goal.returns
returns c =
    let a = c.args in
    let h = holds a.store.now c.requires.0 in
    edit_written h c.requires.3 a.plan a.text.now a.out.now c.in_ok-refusal.ensures refl c.put_edited.ensures
