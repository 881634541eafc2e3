-- `document_rows::find_element` meets its contract: the rows are those of the store (`element_at_is` of ElementFacts; `whole` of
-- StoreFacts).
use Rattle.store_check.proofs.StoreFacts.{whole}
use Rattle.document_rows.proofs.ElementFacts.{element_at_is}
use Rattle.document_rows.proofs.find_element.Goals as goal

pub returns : goal.returns
returns c =
    let r = c.rows_in.ensures in element_at_is _ (whole _ c.requires) _ _ r.width r.bytes r.count c.element_at.ensures
