-- `document_rows::find_parent` meets its contract: the rows are those of the store (`parent_at_is` of ElementFacts; `whole` of
-- StoreFacts).
use Rattle.store_check.proofs.StoreFacts.{whole}
use Rattle.document_rows.proofs.ElementFacts.{parent_at_is}
use Rattle.document_rows.proofs.find_parent.Goals as goal

pub returns : goal.returns
returns c =
    let r = c.rows_in.ensures in parent_at_is _ (whole _ c.requires) _ _ r.width r.bytes r.count c.parent_at.ensures
