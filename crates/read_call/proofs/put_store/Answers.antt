-- `read_call::put_store` meets its contract: the bytes between the header and the first row are the form's own
-- (`own_form` of FormLaws in `store_laws`), as `put_form` requires (`heads_of` of EditedLaws in `plan_writer`); header,
-- form and the rows behind them are the store of both (`stored_documents` of CallLaws).
use native.Mathlib.Omega.{arith}
use Rattle.layout.proofs.LayoutLaws.{width_within}
use Rattle.store_laws.proofs.StoreLaws.{holds}
use Rattle.store_laws.proofs.FormLaws.{start_within}
use Rattle.plan_writer.proofs.EditedLaws.{heads_of}
use Rattle.document_reading.proofs.FormLaws.{form_room}
use Rattle.read_call.proofs.CallLaws.{forms, stored_documents, laid_short, rows_at}
use Rattle.read_call.proofs.put_store.Goals as goal

pub slice_bounds-bodies-count : goal.slice_bounds-bodies-count
slice_bounds-bodies-count c =
    omega (arith, c.header_size-start.ensures, start_within (holds _ c.requires.0) c.row_start-end.ensures)

pub slice_bounds-bodies-start : goal.slice_bounds-bodies-start
slice_bounds-bodies-start c =
    omega (arith, c.header_size-start.ensures, start_within (holds _ c.requires.0) c.row_start-end.ensures)

pub slice_bounds-bodies-end : goal.slice_bounds-bodies-end
slice_bounds-bodies-end c =
    omega (arith, c.header_size-start.ensures, start_within (holds _ c.requires.0) c.row_start-end.ensures)

pub overflow_add-rows : goal.overflow_add-rows
overflow_add-rows c =
    omega (arith, c.requires.1.few)

pub put_form-at-requires : goal.put_form-at-requires
put_form-at-requires c =
    let few = c.requires.1.few in (
      c.width_in-w.ensures.small,
      heads_of
          (forms (holds _ c.requires.0) c.header_size-start.ensures c.row_start-end.ensures c.definition_count-d.ensures
          c.particle_count-p.ensures c.attribute_count-a.ensures) (width_within c.args.form.now) (omega arith) few,
    )

pub put_documents-requires : goal.put_documents-requires
put_documents-requires c = (
  c.width_in-w.ensures.small,
  form_room c.args.form.now c.requires.0,
  rows_at c.width_in-w.ensures c.requires.1,
  laid_short c.args.form.now _ _ _ _ _ _ _ c.row_start-end.ensures c.put_form-at.ensures,
)

pub returns : goal.returns
returns c =
    stored_documents (holds _ c.requires.0) c.header_size-start.ensures c.row_start-end.ensures c.definition_count-d.ensures
    c.particle_count-p.ensures c.attribute_count-a.ensures c.width_in-w.ensures c.requires.1
    c.put_form-at.ensures c.put_documents.ensures
