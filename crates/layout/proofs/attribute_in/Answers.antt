-- `layout::attribute_in` meets its contract: the place and the length of the window are by the width, the counts and
-- the product that the calls gave, which are the store's (`attribute_window` of LayoutLaws).
use Rattle.layout.proofs.LayoutLaws.{attribute_window}
use Rattle.layout.proofs.attribute_in.Goals as goal

pub returns : goal.returns
returns c = attribute_window
    _
    _
    c.width_in-w.ensures
    c.definition_count-definitions.ensures
    c.particle_count-particles.ensures
    c.times-before.ensures
    c.window.ensures
