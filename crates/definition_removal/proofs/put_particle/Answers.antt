-- `definition_removal::put_particle` meets its contract: the record is written with the index that `moved_member` gives
-- for the index that is read, which is `particle_record` (`particle_laid` of Moving).
use Rattle.definition_removal.proofs.Moving.{particle_laid}
use Rattle.definition_removal.specs.Bodies.{lowered}
use Prim.Native.Nat.{suc}
use Rattle.definition_removal.proofs.put_particle.Goals as goal

pub returns : goal.returns
returns c =
    particle_laid (lowered (suc c.args.definition) 1) c.args.rec.now c.particle_sort-sort.ensures c.particle_index.ensures
    c.moved_member-moved.ensures c.put_particle_moved.ensures
