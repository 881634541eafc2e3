-- `layout::width_in` meets its contract: the width for the version that is read is that of the store, and it is below
-- 256 (`width_in_lem` of LayoutLaws).
use Rattle.layout.proofs.LayoutLaws.{width_in_lem}
use Rattle.layout.proofs.width_in.Goals as goal

pub returns : goal.returns
returns c = width_in_lem c.get_u32.ensures c.width_of.ensures
