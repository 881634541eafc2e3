-- `place_lookup::member_after` meets its contract: the member lies within s, so that the sum is in range
-- (`member_bounded` of ParticleLaws).
use native.Mathlib.Omega.{arith}
use Rattle.model.proofs.ParticleLaws.{member_bounded}
use Rattle.place_lookup.proofs.member_after.Goals as goal

pub particle_of-requires : goal.particle_of-requires
particle_of-requires c =
    omega (arith, member_bounded _ _ c.args.s.now _ c.in-Member.p c.reach.ensures c.in-Member.is)
