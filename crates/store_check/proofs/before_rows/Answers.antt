-- `store_check::before_rows` meets its contract: the bytes through the attributes are those before the tree body
-- (`before_of` of CallLaws).
use Rattle.store_check.proofs.CallLaws.{before_of}
use Rattle.store_check.proofs.before_rows.Goals as goal

pub returns : goal.returns
returns c =
    before_of c.requires c.through_attributes-at.ensures c.first.ensures
