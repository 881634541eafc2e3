-- `layout::definition_particles_at` meets its contract: the two bytes at `20 * i + 18` of the body are the field of
-- record i (`particles_at_lem` of LayoutLaws).
use mathlib.Core.Path.{◌∙◌}
use Rattle.layout.proofs.LayoutLaws.{particles_at_lem}
use Rattle.layout.proofs.definition_particles_at.Goals as goal

pub returns : goal.returns
returns c =
    let a = c.args in
    c.get_u16.ensures ∙ particles_at_lem a.i a.defs.now
