-- `model::read_particle` meets its contract: the kind of a group or none, the index and the quantifier's code are read
-- from the bytes at `at` (`element_read`, `group_read` of Codes), and what they stand for is `particle_of`
-- (`particle_read`).
use mathlib.Core.Path.{◌≡◌}
use Rattle.model.specs.Particle.{what_of}
use Rattle.model.proofs.Codes.{element_read, group_read, particle_read}
use Rattle.model.proofs.read_particle.Goals as goal
use Rattle.model.proofs.read_particle.Goals.{in-None, in-Some}

pub returns : goal.returns
returns c =
    let a = c.args in
    let what : c.match-group_kind_of.what ≡ what_of _ c.particle_index-index.result =
    elim c.match-group_kind_of.branch [
      | in-None w ↦ element_read _ _ c.group_kind_of.ensures w.in-None.is w.what-is
      | in-Some w ↦ group_read _ _ c.group_kind_of.ensures _ w.in-Some.is w.what-is
    ] in
    particle_read a.s.now a.at _ _ _ _ c.particle_index-index.ensures c.particle_quantifier.ensures what c.from-quantifier.ensures
