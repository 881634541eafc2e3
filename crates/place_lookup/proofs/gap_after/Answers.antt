-- `place_lookup::gap_after` meets its contract: the particle or the end lies within s, so that the sum is in range
-- (`member_bounded`, `end_bounded` of ParticleLaws).
use native.Mathlib.Omega.{arith}
use mathlib.Core.Logic.{⊎_elim}
use Rattle.model.proofs.ParticleLaws.{member_bounded, end_bounded}
use Rattle.place_lookup.proofs.gap_after.Goals as goal

pub particle_of-requires : goal.particle_of-requires
particle_of-requires c =
    ⊎_elim
    (λ m. omega (arith, member_bounded _ _ c.args.s.now _ _ c.reach.ensures m))
    (λ e. omega (arith, end_bounded _ _ c.args.s.now _ _ c.reach.ensures e))
    c.in-Member.is
