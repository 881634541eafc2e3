-- `printing_parts::particle` meets its contract: what `particle_in` reads is record i of the particle body
-- (`particle_place` of PartLaws).
use mathlib.Core.Path.{◌∙◌}
use Rattle.printing_parts.proofs.PartLaws.{particle_place}
use Rattle.printing_parts.proofs.particle.Goals as goal

pub returns : goal.returns
returns c =
    let a = c.args in
    c.particle_in.ensures ∙ particle_place a.store.now a.i
