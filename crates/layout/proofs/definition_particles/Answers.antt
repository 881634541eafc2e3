-- `layout::definition_particles` meets its contract: the number at place 1 of what follows 17 bytes, as
-- `read_definition` reads it, is that at place 18 (`number_after` of LayoutLaws).
use mathlib.Core.Path.{◌∙◌, sym}
use Rattle.layout.proofs.LayoutLaws.{number_after}
use Rattle.layout.proofs.definition_particles.Goals as goal

pub returns : goal.returns
returns c =
    c.get_u16.ensures ∙ sym (number_after 17 1 2 c.args.rec.now)
