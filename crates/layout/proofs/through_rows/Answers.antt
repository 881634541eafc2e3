-- `layout::through_rows` meets its contract: the place where the rows begin and the product for their bytes add up to
-- the length (`rows_through` of LayoutLaws).
use Rattle.layout.proofs.LayoutLaws.{rows_through}
use Rattle.layout.proofs.through_rows.Goals as goal

pub returns : goal.returns
returns c =
    let a = c.args in
    rows_through a.w a.n a.p a.a _ _ _ a.m c.row_size.ensures c.through_attributes-start.ensures c.times.ensures
