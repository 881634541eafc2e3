-- `layout::attribute_value` meets its contract: the window from byte 20 on is as long as byte 19 says, and so is the
-- value that `read_attribute` reads in what follows 18 bytes (`attribute_value_by` of LayoutLaws).
use Rattle.layout.proofs.LayoutLaws.{attribute_value_by}
use Rattle.layout.proofs.attribute_value.Goals as goal

pub returns : goal.returns
returns c =
    attribute_value_by c.args.rec.now _ _ _ c.byte.ensures c.wide.ensures c.window.ensures
