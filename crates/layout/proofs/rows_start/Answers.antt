-- `layout::rows_start` meets its contract: the place where the attributes begin and the product for their bytes add up
-- to the place where the rows begin, which is in range (`rows_place` of LayoutLaws).
use Rattle.layout.proofs.LayoutLaws.{rows_place}
use Rattle.layout.proofs.rows_start.Goals as goal

pub returns : goal.returns
returns c =
    rows_place c.args.s _ _ c.requires c.attributes_start-start.ensures c.times.ensures
