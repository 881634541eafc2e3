-- `layout::definitions_of` meets its contract: `shape_of` gives the shape by the store's own header, so that what
-- `definition_body` gives by that shape is the store's definitions (`by_shape` of LayoutLaws).
use Rattle.layout.proofs.LayoutLaws.{by_shape}
use Rattle.layout.specs.Bodies.{definition_body}
use Rattle.layout.proofs.definitions_of.Goals as goal

pub returns : goal.returns
returns c = by_shape definition_body _ c.shape_of-s.ensures c.definition_body.ensures
