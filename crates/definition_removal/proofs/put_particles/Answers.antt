-- `definition_removal::put_particles` meets its contract: the loop's invariant holds at first (`going_start` of Again)
-- and after each particle (`going_on`), and where none is left all are written (`going_end`); the length of a record is
-- bounded (`particle_short`), so that the places are in range.
use Rattle.definition_removal.proofs.Again.{going_start, going_on, going_end, particle_short}
use Rattle.definition_removal.specs.Bodies.{lowered, particle_record}
use Rattle.rules.specs.Layout.{particle_size}
use native.Mathlib.Omega.{arith}
use Prim.Native.Nat.{suc}
use Rattle.definition_removal.proofs.put_particles.Goals as goal

pub loop-i-init : goal.loop-i-init
loop-i-init c =
    going_start (particle_record (lowered (suc c.args.definition) 1)) particle_size c.args.body.now c.args.count

pub put_particle-at-requires : goal.put_particle-at-requires
put_particle-at-requires c =
    omega (arith, c.loop-i.invariant.small, c.requires)

pub loop-i-preserved : goal.loop-i-preserved
loop-i-preserved c =
    let a = c.args in
    going_on (particle_record (lowered (suc a.definition) 1)) particle_size a.body.now a.count c.loop-i.invariant _ (omega arith) c.particle_at.ensures
    c.put_particle-at.ensures (particle_short (lowered (suc a.definition) 1) _)

pub returns : goal.returns
returns c =
    let a = c.args in
    going_end (particle_record (lowered (suc a.definition) 1)) particle_size a.body.now a.count c.loop-i.invariant (omega arith)
