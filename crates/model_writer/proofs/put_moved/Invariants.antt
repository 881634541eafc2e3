use mathlib.Core.Path.{◌≡◌}
use Rattle.rules.specs.Layout.{each, particle_bytes, particle_size}
use Rattle.model.specs.Members.{particles_of}
use Rattle.model_writer.specs.PartAfter.{moved}
use Rattle.model_writer.specs.Writing.{shift}
use Rattle.model_writer.proofs.WritingLaws.{Going, Along}
use Rattle.model_writer.proofs.put_moved.Given as goal

-- The particles that are left, with the first m members among them moved, written from `at` on complete what s gives
-- from `start` on, and there is room for them.
abbrev pub invariant-loop-particle : goal.invariant-loop-particle
invariant-loop-particle l =
    (l.particle-iterator.size ≡ particle_size)
    × Along l.s l.start l.at l.particle-iterator.rest.now
    × Going (each particle_bytes (moved (shift l.deeper) l.d l.n (particles_of l.s))) l.initial.out l.start 9223372036854775808 (shift l.deeper) l.d
    l.particle-iterator.rest.now l.m l.out l.at
