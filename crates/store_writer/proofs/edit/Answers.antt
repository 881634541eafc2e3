-- `store_writer::edit` meets its contract: the bytes between the header and the first row are the store's own form
-- (`own_form`, `start_within` of FormLaws in `store_laws`), as `edit_form` requires (`forms_of`), and with it the store
-- is edited as `planned` says (`own_answers` of FormAnswers).
use native.Mathlib.Omega.{arith}
use lib.ListN.{length}
use Rattle.store_laws.proofs.StoreLaws.{holds}
use Rattle.store_laws.proofs.FormLaws.{forms_of, own_form, start_within}
use Rattle.store_writer.proofs.FormAnswers.{own_answers}
use Rattle.store_writer.proofs.edit.Goals as goal

pub slice_bounds-form-count : goal.slice_bounds-form-count
slice_bounds-form-count c =
    omega (arith, c.header_size-start.ensures, start_within (holds _ c.requires.0) c.row_start-end.ensures)

pub slice_bounds-form-start : goal.slice_bounds-form-start
slice_bounds-form-start c =
    omega (arith, c.header_size-start.ensures, start_within (holds _ c.requires.0) c.row_start-end.ensures)

pub slice_bounds-form-end : goal.slice_bounds-form-end
slice_bounds-form-end c =
    omega (arith, c.header_size-start.ensures, start_within (holds _ c.requires.0) c.row_start-end.ensures)

pub edit_form-requires : goal.edit_form-requires
edit_form-requires c = (
  c.requires.0,
  c.requires.1,
  c.requires.2,
  forms_of
      (own_form (holds _ c.requires.0) c.header_size-start.ensures c.row_start-end.ensures
      c.definition_count-d.ensures c.particle_count-p.ensures c.attribute_count-a.ensures),
)

pub returns : goal.returns
returns c =
    let own = own_form (holds _ c.requires.0) c.header_size-start.ensures c.row_start-end.ensures
    c.definition_count-d.ensures c.particle_count-p.ensures c.attribute_count-a.ensures in
    own_answers own c.args.plan c.args.text.now (length c.args.out.now) c.edit_form.ensures
