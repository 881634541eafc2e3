-- `definition_removal::attribute_start` meets its contract: the width, the count and the body that are read are the
-- store's, so the answer of `attributes_below` is the number for the store's attributes (`attribute_starts` of Left).
use Rattle.definition_removal.proofs.Left.{attribute_starts}
use Rattle.definition_removal.proofs.attribute_start.Goals as goal

pub returns : goal.returns
returns c =
    attribute_starts c.args.store.now c.args.i c.width_in-w.ensures c.attribute_count-count.ensures
    c.attributes_of.ensures c.attributes_below.ensures
