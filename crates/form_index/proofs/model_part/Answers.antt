-- `form_index::model_part` meets its contract: the window that leaves out the particles before definition i's and is as
-- long as its own is `model_part` (`model_read` of ReadingLaws).
use mathlib.Core.Path.{◌∙◌}
use Rattle.form_index.proofs.ReadingLaws.{model_read}
use Rattle.form_index.proofs.model_part.Goals as goal

pub returns : goal.returns
returns c =
    let a = c.args in
    c.window.ensures ∙ model_read a.defs.now a.parts.now a.i _ _ c.particles_before.ensures.0 c.model_length.ensures.0
