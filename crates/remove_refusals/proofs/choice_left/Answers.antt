-- `remove_refusals::choice_left` meets its contract: the three answers, of the CHOICE's own quantifier, of the members
-- before the element and of those after it, make up `choice_left` (`left_read` of RemoveLaws).
use Rattle.remove_refusals.proofs.RemoveLaws.{left_read}
use native.Mathlib.Omega.{arith}
use Rattle.remove_refusals.proofs.choice_left.Goals as goal

pub times-long-requires : goal.times-long-requires
times-long-requires c = (omega (arith, c.particle_size.ensures), omega arith)

pub returns : goal.returns
returns c =
    let a = c.args in
    left_read a.part.now a.start a.p a.d c.particles_from.ensures c.read_particle-x.ensures c.skips.ensures
    c.particle_size.ensures c.times-long.ensures c.particles_from-2.ensures c.window.ensures
    c.accepts_nothing-before.ensures
    c.particles_from-3.ensures c.accepts_nothing-after.ensures
