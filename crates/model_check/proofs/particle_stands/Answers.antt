-- `model_check::particle_stands` meets its contract. Depth, members and elements, each test at its return.
use mathlib.Core.Path.{sym}
use Prim.Native.Nat.{◌+◌}
use lib.ListN.{drop}
use Rattle.model_check.specs.Particles.{particle_record_at, particles_read}
use Rattle.model_check.proofs.ModelLaws.{stands_low, stands_far, stands_by}
use Rattle.model_check.proofs.particle_stands.Goals as goal

pub returns-then-depth-gt4 : goal.returns-then-depth-gt4
returns-then-depth-gt4 c =
    let a = c.args in
    sym (stands_low a.n a.d (particle_record_at a.i a.parts.now) (drop (a.i + 1) (particles_read a.m a.parts.now)) c.particle_depth_at-depth.ensures c.if-depth-gt4.true)

pub returns-then-d-depth : goal.returns-then-d-depth
returns-then-d-depth c =
    let a = c.args in
    sym (stands_far a.n a.d (particle_record_at a.i a.parts.now) (drop (a.i + 1) (particles_read a.m a.parts.now))
    c.particle_depth_at-depth.ensures c.if-depth-gt4.false
    c.if-d-depth.true)

pub returns : goal.returns
returns c =
    let a = c.args in
    stands_by a.n a.d (particle_record_at a.i a.parts.now) (drop (a.i + 1) (particles_read a.m a.parts.now)) c.particle_depth_at-depth.ensures
    c.if-depth-gt4.false c.if-d-depth.false c.members-below.ensures c.count_fits-fits.ensures c.element_again.ensures
