-- `definition_removal::particles_left` meets its contract: the range of definition i lies within the count, as
-- `count_left` requires, and the count less that range is the number of particles that `destroyed` leaves, at most 256
-- (`models_left` of Left).
use Rattle.definition_removal.proofs.Left.{models_left}
use native.Mathlib.Omega.{arith}
use Rattle.definition_removal.proofs.particles_left.Goals as goal

pub count_left-requires : goal.count_left-requires
count_left-requires c = let own = c.model_range.ensures in (own.order, omega (arith, own.past.most, c.particle_count.ensures.value))

pub returns : goal.returns
returns c =
    let a = c.args in
    models_left a.store.now c.requires.good a.i c.requires.there c.particle_count.ensures c.model_range.ensures c.count_left.ensures
