-- `layout::particle_body` meets its contract: the window from the end of the definitions on, 4 bytes for each particle,
-- is the definition of `particle_body` (`particles_window` of LayoutLaws).
use Rattle.layout.proofs.LayoutLaws.{particles_window}
use Rattle.layout.proofs.particle_body.Goals as goal

pub returns : goal.returns
returns c = particles_window _ _ _ c.window.ensures
