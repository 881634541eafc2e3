use Rattle.definition_removal.proofs.Again.{Going}
use Rattle.definition_removal.specs.Bodies.{lowered, particle_record}
use Rattle.rules.specs.Layout.{particle_size}
use Prim.Native.Nat.{suc}
use Rattle.definition_removal.proofs.put_particles.Given as goal

-- The loop's invariant: the particles from i on, written from `at` on, complete what all particles give from `start`
-- on.
abbrev pub invariant-loop-i : goal.invariant-loop-i
invariant-loop-i l = Going (particle_record (lowered (suc l.definition) 1)) particle_size l.body l.count l.initial.out l.start l.out l.at l.i
