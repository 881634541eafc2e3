-- `layout::attributes_of` meets its contract: `shape_of` gives the shape by the store's own header, so that what
-- `attribute_body` gives by that shape is the store's attributes (`by_shape` of LayoutLaws).
use Rattle.layout.proofs.LayoutLaws.{by_shape}
use Rattle.layout.specs.Bodies.{attribute_body}
use Rattle.layout.proofs.attributes_of.Goals as goal

pub returns : goal.returns
returns c = by_shape attribute_body _ c.shape_of-s.ensures c.attribute_body.ensures
