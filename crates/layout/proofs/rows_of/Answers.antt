-- `layout::rows_of` meets its contract: `shape_of` gives the shape by the store's own header, so that what `row_body`
-- gives by that shape is the store's rows (`by_shape` of LayoutLaws).
use Rattle.layout.proofs.LayoutLaws.{by_shape}
use Rattle.layout.specs.Bodies.{row_body}
use Rattle.layout.proofs.rows_of.Goals as goal

pub returns : goal.returns
returns c = by_shape row_body _ c.shape_of-s.ensures c.row_body.ensures
