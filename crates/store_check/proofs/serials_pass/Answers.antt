-- `store_check::serials_pass` meets its contract: the header bounds the count (`serials_asked` of CallLaws), and width,
-- count and rows are the store's own (`serials_in_lem`).
use Rattle.store_check.proofs.CallLaws.{headed, rows_of, serials_asked, serials_in_lem}
use Rattle.store_check.proofs.serials_pass.Goals as goal

pub serials_differ-requires : goal.serials_differ-requires
serials_differ-requires c =
    serials_asked (headed _ c.requires.0 c.shared_slice_known-1.given) c.requires.1

pub returns : goal.returns
returns c =
    let shape = c.requires.1 in
    serials_in_lem (headed _ c.requires.0 c.shared_slice_known-1.given) shape (rows_of shape c.row_body.ensures) c.serials_differ.ensures
