-- `model_edit::edit_model` meets its contract: a form past its ceilings is answered with 16 (`form_ceiling` of
-- FormAnswers); else the buffer has the bytes of the edited form (`form_short`, `stored` of FormWriting) and the counts
-- are its own (`as_many`, `form_of`), as `edit_form` requires, and its answer is that for this form (`form_answers`).
use Prim.Native.Nat.{ℕ}
use mathlib.Core.Path.{sym, ◌∙◌}
use lib.ListN.{length, length-replicate}
use Rattle.layout.specs.Bodies.{most_form}
use Rattle.lookup.specs.Bodies.{bodies_of}
use Rattle.store_laws.proofs.FormLaws.{forms_of}
use Rattle.store_writer.proofs.FormAnswers.{form_answers, form_ceiling}
use Rattle.model_form.proofs.FormWriting.{owner_low, own_low, as_many, form_short, form_of, stored}
use Rattle.model_edit.proofs.edit_model.Goals as goal

pub all_after-p-requires : goal.all_after-p-requires
all_after-p-requires c =
    (owner_low c.args.change.now.fits, own_low c.args.change.now.fits)

pub keeps_within-requires : goal.keeps_within-requires
keeps_within-requires c =
    as_many c.args.change.now.fits c.all_after-p.ensures

pub returns-then-not-keeps_within : goal.returns-then-not-keeps_within
returns-then-not-keeps_within c =
    form_ceiling _ (sym c.keeps_within.ensures ∙ c.if-not-keeps_within.true) c.args.plan c.args.text.now
    (bodies_of c.args.change.now.store.now) (length c.args.out.now)

pub put_edited-end-requires : goal.put_edited-end-requires
put_edited-end-requires c =
    sym c.keeps_within.ensures ∙ c.if-not-keeps_within.false

pub slice_bounds-form-end : goal.slice_bounds-form-end
slice_bounds-form-end c =
    (stored c.put_edited-end.ensures (length-replicate {A = ℕ} most_form 0)
    (form_short c.args.change.now.fits (sym c.keeps_within.ensures ∙ c.if-not-keeps_within.false))).inside

pub slice_bounds-edit_form-end : goal.slice_bounds-edit_form-end
slice_bounds-edit_form-end c =
    (stored c.put_edited-end.ensures (length-replicate {A = ℕ} most_form 0)
    (form_short c.args.change.now.fits (sym c.keeps_within.ensures ∙ c.if-not-keeps_within.false))).count

pub edit_form-requires : goal.edit_form-requires
edit_form-requires c = (
  c.args.change.now.fits.good,
  c.requires.0,
  c.requires.1,
  forms_of
      (form_of c.args.change.now.fits (sym c.keeps_within.ensures ∙ c.if-not-keeps_within.false) c.definition_count-d.ensures
      (as_many c.args.change.now.fits c.all_after-p.ensures) c.attribute_count-a.ensures
      (stored c.put_edited-end.ensures (length-replicate {A = ℕ} most_form 0)
      (form_short c.args.change.now.fits (sym c.keeps_within.ensures ∙ c.if-not-keeps_within.false))).is),
)

pub returns : goal.returns
returns c =
    form_answers
    (form_of c.args.change.now.fits (sym c.keeps_within.ensures ∙ c.if-not-keeps_within.false) c.definition_count-d.ensures
    (as_many c.args.change.now.fits c.all_after-p.ensures) c.attribute_count-a.ensures
    (stored c.put_edited-end.ensures (length-replicate {A = ℕ} most_form 0)
    (form_short c.args.change.now.fits (sym c.keeps_within.ensures ∙ c.if-not-keeps_within.false))).is)
    c.args.plan c.args.text.now (bodies_of c.args.change.now.store.now) (length c.args.out.now) c.edit_form.ensures
