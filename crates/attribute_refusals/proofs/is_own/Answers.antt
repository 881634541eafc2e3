-- `attribute_refusals::is_own` meets its contract: the owner and the name read from the record are those that
-- `own_named` tests (`own_read` of AttributeLaws).
use Rattle.attribute_refusals.proofs.AttributeLaws.{own_read}
use Rattle.attribute_refusals.proofs.is_own.Goals as goal

pub returns : goal.returns
returns c =
    let a = c.args in
    own_read a.owner a.name.now a.rec.now c.attribute_name.ensures c.equal-same.ensures c.attribute_owner.ensures
