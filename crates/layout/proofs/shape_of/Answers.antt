-- `layout::shape_of` meets its contract: the version, the width by it and the four counts are what the header says, and
-- each fits its field (`shaped` of LayoutLaws).
use Rattle.layout.proofs.LayoutLaws.{shaped}
use Rattle.layout.proofs.shape_of.Goals as goal

pub returns : goal.returns
returns c =
    shaped c.get_u32-version.ensures c.width_of-width.ensures c.definition_count-definitions.ensures
    c.particle_count-particles.ensures c.attribute_count-attributes.ensures c.row_count-rows.ensures
