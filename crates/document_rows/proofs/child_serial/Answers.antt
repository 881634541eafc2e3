-- `document_rows::child_serial` meets its contract: the element is in the store, so that its row is found (`not_missing` of
-- RowFacts), and the serial that `nth_at` reads right below that row is the store's (`child_serial_lem`).
use Rattle.store_check.proofs.StoreFacts.{whole}
use Rattle.document_rows.proofs.ElementFacts.{element_there}
use Rattle.document_rows.proofs.RowFacts.{row_of, not_missing, child_serial_lem}
use Rattle.document_rows.proofs.child_serial.Goals as goal

pub returns-in_err-find_element : goal.returns-in_err-find_element
returns-in_err-find_element c = not_missing _ (whole _ c.requires.0) c.requires.1 c.in_err-find_element.ensures

pub nth_at-requires : goal.nth_at-requires
nth_at-requires c = row_of _ (whole _ c.requires.0) c.in_ok-find_element.ensures

pub returns : goal.returns
returns c =
    let w = whole _ c.requires.0 in
    child_serial_lem _ w (element_there _ w _ c.in_ok-find_element.ensures) c.args.child c.nth_at.ensures
