-- `printing::print_store` meets its contract: the text of the form, then that of the documents, is the text of the
-- store (`text_parts` of FormLaws; `laid_then` and `laid_as` of Writers in `codec`).
use Rattle.lookup.specs.Bodies.{RowsOf}
use Rattle.codec.proofs.Writers.{laid_then, laid_as}
use Rattle.printing.proofs.FormLaws.{text_parts}
use Rattle.printing.proofs.print_store.Goals as goal

pub returns : goal.returns
returns c =
    let store_rows : RowsOf c.args.store.now c.width_in.result c.from_rows.result.now =
    record { width = c.width_in.ensures; body = c.from_rows.ensures } in
    laid_as (text_parts store_rows c.row_count.ensures.value) (laid_then c.put_form-formed.ensures.laid c.put_documents.ensures)
