-- `store_check::documents_pass` meets its contract: the header bounds the counts and the rows (`rows_asked` of
-- CallLaws), and the verdict by the bytes before the tree body and the rows is the walk's answer (`rows_answer`).
use Rattle.store_check.proofs.CallLaws.{headed, rows_of, rows_asked, rows_answer}
use Rattle.store_check.proofs.documents_pass.Goals as goal

pub rows_pass-requires : goal.rows_pass-requires
rows_pass-requires c =
    let shape = c.requires.1 in
    let header = headed _ c.requires.0 c.shared_slice_known-1.given in
    rows_asked header shape c.before_rows-before.ensures (rows_of shape c.row_body-rows.ensures)

pub returns : goal.returns
returns c =
    let shape = c.requires.1 in
    let header = headed _ c.requires.0 c.shared_slice_known-1.given in
    rows_answer header shape c.before_rows-before.ensures c.next_serial-next.ensures.value (rows_of shape c.row_body-rows.ensures) c.rows_pass.ensures
