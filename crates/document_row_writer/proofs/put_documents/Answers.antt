-- `document_row_writer::put_documents` meets its contract: up to a limit that is past the last row, all rows are
-- written (`documents_put` of PutLaws), since there are rows (`documents_there`).
use Rattle.document_row_writer.proofs.PutLaws.{documents_there, documents_put}
use Rattle.document_row_writer.proofs.put_documents.Goals as goal

pub returns : goal.returns
returns c =
    let a = c.args in
    documents_put a.w a.form.now a.text.now _ c.requires.2 c.start-here.ensures.0 c.in-Some.ensures.0

pub returns-in_default : goal.returns-in_default
returns-in_default c =
    let a = c.args in
    absurd (documents_there a.w a.form.now a.text.now _ c.requires.2 c.start-here.ensures.0 c.in_default.ensures.0)
