-- `document_printing::Printer::put_document` meets its contract: what `put_element` writes under the name of row i, and the end
-- of the line after it, are `document_text` of that row (`document_stepped` of RowLaws).
use mathlib.Core.Path.{refl}
use Rattle.document_printing.proofs.RowLaws.{document_stepped}
use Rattle.document_printing.proofs.Printer.put_document.Goals as goal

pub returns : goal.returns
returns c =
    let a = c.args in
    document_stepped a.self.now.store.now a.self.now.rows.bytes.now a.self.now.rows.width a.self.now.rows.count a.i _ c.row.ensures c.requires.1 refl refl c.row_name_of-name.ensures c.put_element-root.ensures c.put_u8.ensures
